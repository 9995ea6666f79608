-- A format reads and writes values as bits. It carries its two laws, so that a grammar made of formats has them by itself: to believe are `In`,
-- `put` and `get` of `field`, `pair`, `counted` and `seen`.
use Prim.Native.Nat.{ℕ, zero, suc, ◌^◌, ◌<◌, ◌≤◌}
use Rattle.std.specs.Prelude.{◌≡◌, Bool, true, false, leb, length, take, drop}
use Rattle.std.proofs.Math.Path.{refl}
use Rattle.std.proofs.Common.{ap, arith, mod-eq_of_lt, length-append, take-append-drop, take_at, drop_at, length-take-le, le-leb, leb-true}
use mathlib.Core.List.{List, [], ◌∷◌, ◌++◌, append_assoc}
use Rattle.bits.specs.Bits.{bits_of, value_of}
use Rattle.bits.proofs.Fields.{length_bits, value_bits, bits_value, value_lt}
use Rattle.rules.proofs.Lists.{All}

-- What reading finds: a value and the bits behind it, or that bits are missing.
pub data Got (A : Type 0) : Type 0 where
  short : Got A
  got : A → List Bool → Got A

unfoldable pub next : {A B : Type 0} → Got A → (A → List Bool → Got B) → Got B
next short k = short
next (got a r) k = k a r

-- What was read is what the bits in front are written from.
abbrev pub Reads : {A : Type 0} → (A → Type 0) → (A → List Bool) → List Bool → Got A → Type 0
Reads In put b short = Unit {0}
Reads In put b (got a r) = (put a ++ r ≡ b) × In a

pub record Format (A : Type 0) : Type 1 where
  -- The values that the format can hold.
  pub In : A → Type 0
  pub put : A → List Bool
  pub get : List Bool → Got A
  pub put_get : (a : A) (r : List Bool) → In a → get (put a ++ r) ≡ got a r
  pub get_put : (b : List Bool) → Reads In put b (get b)

abbrev pub reads_by : {A : Type 0} → Format A → List Bool → Got A → Type 0
reads_by f = Reads f.In f.put

-- A number of w bits.
unfoldable pub get_field : ℕ → Bool → List Bool → Got ℕ
get_field w true b = got (value_of (take w b)) (drop w b)
get_field w false b = short

pub field_back : (w : ℕ) (b : List Bool) (t : Bool) → leb w (length b) ≡ t → Reads (λ v. v < 2 ^ w) (bits_of w) b (get_field w t b)
unfolding get_field
field_back w b false e = tt
field_back w b true e =
    let h : w ≤ length b = leb-true w (length b) e in
    let l : length (take w b) ≡ w = length-take-le w b h in
    let v : value_of (take w b) < 2 ^ w = rw l at (value_lt (take w b)) in
    let f : bits_of w (value_of (take w b)) ≡ take w b = rw l at (bits_value (take w b)) in
    (rw (f, take-append-drop), v)

pub field_there : (w a : ℕ) (r : List Bool) → a < 2 ^ w → get_field w (leb w (length (bits_of w a ++ r))) (bits_of w a ++ r) ≡ got a r
unfolding get_field
field_there w a r h =
    let e : length (bits_of w a) ≡ w = length_bits w a in
    let l : w ≤ length (bits_of w a ++ r) = rw (length-append, e) (omega arith) in
    rw (le-leb w _ l, take_at _ r w e, drop_at _ r w e, value_bits, mod-eq_of_lt h)

unfoldable pub field : ℕ → Format ℕ
field w = record {
  In = λ v. v < 2 ^ w;
  put = bits_of w;
  get = λ b. get_field w (leb w (length b)) b;
  put_get = field_there w;
  get_put = λ b. field_back w b (leb w (length b)) refl;
}

-- One value, then another.
module _ {A B : Type 0} (f : Format A) (g : Format B) where
  abbrev pub InPair : A × B → Type 0
  InPair p = f.In p.0 × g.In p.1

  abbrev pub put_pair : A × B → List Bool
  put_pair p = f.put p.0 ++ g.put p.1

  abbrev pub get_pair : List Bool → Got (A × B)
  get_pair b = next (f.get b) (λ a r. next (g.get r) (λ c s. got (a, c) s))

  pub pair_second : (a : A) (b r : List Bool) → f.put a ++ r ≡ b → f.In a → (y : Got B) → reads_by g r y
      → Reads InPair put_pair b (next y (λ c s. got (a, c) s))
  unfolding next
  pair_second a b r e h short y = tt
  pair_second a b r e h (got c s) y = (rw (append_assoc, y.0) e, (h, y.1))

  pub pair_first : (b : List Bool) (x : Got A) → reads_by f b x → Reads InPair put_pair b (next x (λ a r. next (g.get r) (λ c s. got (a, c) s)))
  unfolding next
  pair_first b short x = tt
  pair_first b (got a r) x = pair_second a b r x.0 x.1 (g.get r) (g.get_put r)

  pub pair_there : (p : A × B) (r : List Bool) → InPair p → get_pair (put_pair p ++ r) ≡ got p r
  unfolding next
  pair_there p r h = rw (append_assoc, f.put_get p.0 (g.put p.1 ++ r) h.0, g.put_get p.1 r h.1)

  unfoldable pub pair : Format (A × B)
  pair = record {
    In = InPair;
    put = put_pair;
    get = get_pair;
    put_get = pair_there;
    get_put = λ b. pair_first b (f.get b) (f.get_put b);
  }

-- Values one behind the other.
module _ {A : Type 0} (f : Format A) where
  unfoldable pub puts : List A → List Bool
  puts [] = []
  puts (x ∷ xs) = f.put x ++ puts xs

  unfoldable pub gets : ℕ → List Bool → Got (List A)
  gets zero b = got [] b
  gets (suc n) b = next (f.get b) (λ x r. next (gets n r) (λ xs s. got (x ∷ xs) s))

  pub gets_there : (xs : List A) (r : List Bool) → All f.In xs → gets (length xs) (puts xs ++ r) ≡ got xs r
  unfolding next puts gets
  gets_there [] r h = refl
  gets_there (x ∷ xs) r h = rw (append_assoc, f.put_get x (puts xs ++ r) h.0, gets_there xs r h.1)

  abbrev pub ReadsAll : ℕ → List Bool → Got (List A) → Type 0
  ReadsAll n = Reads (λ xs. (length xs ≡ n) × All f.In xs) puts

  gets_rest : (n : ℕ) (x : A) (b r : List Bool) → f.put x ++ r ≡ b → f.In x → (y : Got (List A)) → ReadsAll n r y
      → ReadsAll (suc n) b (next y (λ xs s. got (x ∷ xs) s))
  unfolding next puts
  gets_rest n x b r e h short y = tt
  gets_rest n x b r e h (got xs s) y = (rw (append_assoc, y.0) e, (ap suc y.1.0, (h, y.1.1)))

  gets_first : (n : ℕ) (b : List Bool) → ((r : List Bool) → ReadsAll n r (gets n r)) → (x : Got A) → reads_by f b x
      → ReadsAll (suc n) b (next x (λ x r. next (gets n r) (λ xs s. got (x ∷ xs) s)))
  unfolding next
  gets_first n b more short x = tt
  gets_first n b more (got a r) x = gets_rest n a b r x.0 x.1 (gets n r) (more r)

  pub gets_back : (n : ℕ) (b : List Bool) → ReadsAll n b (gets n b)
  unfolding gets puts
  gets_back zero b = (refl, (refl, tt))
  gets_back (suc n) b = gets_first n b (gets_back n) (f.get b) (f.get_put b)

-- A count of w bits, then so many values.
module _ {A : Type 0} (w : ℕ) (f : Format A) where
  abbrev pub InCounted : List A → Type 0
  InCounted xs = (length xs < 2 ^ w) × All f.In xs

  abbrev pub put_counted : List A → List Bool
  put_counted xs = bits_of w (length xs) ++ puts f xs

  pub counted_back : (b : List Bool) (x : Got ℕ) → Reads (λ v. v < 2 ^ w) (bits_of w) b x → Reads InCounted put_counted b (next x (gets f))
  unfolding next
  counted_back b short x = tt
  counted_back b (got n r) x = by-rest n r x.0 x.1 (gets f n r) (gets_back f n r)
    where
      by-rest : (n : ℕ) (r : List Bool) → bits_of w n ++ r ≡ b → n < 2 ^ w → (y : Got (List A)) → ReadsAll f n r y → Reads InCounted put_counted b y
      by-rest n r e h short y = tt
      by-rest n r e h (got xs s) y = (rw (y.1.0, append_assoc, y.0) e, (rw y.1.0 h, y.1.1))

  pub counted_there : (xs : List A) (r : List Bool) → InCounted xs → next ((field w).get (put_counted xs ++ r)) (gets f) ≡ got xs r
  unfolding next field
  counted_there xs r h = rw (append_assoc, field_there w (length xs) (puts f xs ++ r) h.0, gets_there f xs r h.1)

  unfoldable pub counted : Format (List A)
  unfolding field
  counted = record {
    In = InCounted;
    put = put_counted;
    get = λ b. next ((field w).get b) (gets f);
    put_get = counted_there;
    get_put = λ b. counted_back b ((field w).get b) ((field w).get_put b);
  }

-- The same bits, seen as another type.
module _ {A B : Type 0} (f : Format A) (to : A → B) (from : B → A) (there : (b : B) → to (from b) ≡ b) (back : (a : A) → from (to a) ≡ a) where
  pub seen_back : (b : List Bool) (x : Got A) → reads_by f b x → Reads (λ c. f.In (from c)) (λ c. f.put (from c)) b (next x (λ a r. got (to a) r))
  unfolding next
  seen_back b short x = tt
  seen_back b (got a r) x = (rw (back a) x.0, rw (back a) x.1)

  pub seen_there : (c : B) (r : List Bool) → f.In (from c) → next (f.get (f.put (from c) ++ r)) (λ a r. got (to a) r) ≡ got c r
  unfolding next
  seen_there c r h = rw (f.put_get (from c) r h, there c)

  unfoldable pub seen : Format B
  seen = record {
    In = λ c. f.In (from c);
    put = λ c. f.put (from c);
    get = λ b. next (f.get b) (λ a r. got (to a) r);
    put_get = seen_there;
    get_put = λ b. seen_back b (f.get b) (f.get_put b);
  }
