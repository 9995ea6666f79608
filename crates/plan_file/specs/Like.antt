-- Two messages that the runtime cannot tell apart. It keeps of a payload its length and its first 16 bytes: a longer one is refused by its length, by
-- 17 and 26.
use Rattle.std.specs.Prelude.{◌≤◌, ◌≡◌, List, [], ◌∷◌, length}
use Rattle.rules.specs.State.{Message, max_payload}
use Rattle.rules.specs.HandBack.{Emission}

pub record Like (a b : Message) : Type 0 where
  pub source : a.source ≡ b.source
  pub destination : a.destination ≡ b.destination
  pub tick : a.tick ≡ b.tick
  pub size : length a.payload ≡ length b.payload
  pub payload : length a.payload ≤ max_payload → a.payload ≡ b.payload

pub record LikeEmission (a b : Emission) : Type 0 where
  pub emitter : a.emitter ≡ b.emitter
  pub message : Like a.message b.message

-- One by one.
abbrev pub Alike : {A : Type 0} → (A → A → Type 0) → List A → List A → Type 0
Alike R [] [] = Unit {0}
Alike R [] (y ∷ ys) = ⊥
Alike R (x ∷ xs) [] = ⊥
Alike R (x ∷ xs) (y ∷ ys) = R x y × Alike R xs ys
