-- The state of a refused build is foreign, so every later call answers 11.
use mathlib.Core.Path.{◌≡◌, refl}
use mathlib.Core.Bool.{true}
use Rattle.rules.specs.Base.{any, any_of}
use Rattle.rules.specs.Foreign.{foreign}
use Rattle.state.specs.View.{view_of}
use Rattle.build.specs.Initialized.{empty_runtime}

pub empty_foreign : foreign (view_of empty_runtime) ≡ true
unfolding foreign any_of any
empty_foreign = refl
