-- What the export promises: the number that it returns and every byte of the listing's slice, of all plan bytes and all slices.
use Rattle.std.specs.Prelude.{◌≡◌, List, ℕ}
use Rattle.plan_rules.specs.Export.{Exported, exported}

abbrev pub Exports : List ℕ → List ℕ → List ℕ → ℕ → Type 0
Exports plan old new r = ◌≡◌ {A = Exported} (record { number = r; slice = new }) (exported plan old)
