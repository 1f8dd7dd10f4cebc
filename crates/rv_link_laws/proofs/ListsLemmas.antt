-- What lists hold, and where.

use Rattle.std.specs.Prelude.{slice_index_or, Some}
use Rattle.std.specs.List.{slice_get}
use Rattle.std.proofs.Common.{◌≡◌, ℕ, zero, suc, ◌+◌, ◌-◌, List, [], ◌∷◌, ap, ◌∙◌, arith, ◌<◌, ◌≤◌}
use Rattle.rv_size_laws.specs.Alignment.{aligned}
use Rattle.rv_object_laws.specs.Object.{Object}
use Rattle.rv_link_laws.specs.Names.{object_at, no_object}

pub found_at : (os : List Object) (file : ℕ) (o : Object) → slice_get os file ≡ Some o → object_at os (file + 1) ≡ o
found_at os file o e =
    let same : file + 1 - 1 ≡ file = omega arith in
    ap (λ n. slice_index_or os n no_object) same ∙ go os file e where
      go : (os : List Object) (file : ℕ) → slice_get os file ≡ Some o → slice_index_or os file no_object ≡ o
      go [] file e = absurd (cc)
      go (x ∷ xs) zero e = cc
      go (x ∷ xs) (suc file) e = go xs file e

pub above : (a n : ℕ) → 0 < a → n ≤ aligned a n
above a n some = omega arith
