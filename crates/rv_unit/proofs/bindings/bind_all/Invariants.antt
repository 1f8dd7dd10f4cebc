-- The names so far have the binding.
use Rattle.std.proofs.Common.{◌≡◌, ℕ, List, map, take}
use Rattle.rv_statement.specs.View.{now_of}
use Rattle.rv_unit_laws.specs.Bindings.{bound}
use Rattle.rv_unit.specs.Tables.{binding_in}
use Rattle.rv_unit.proofs.bindings.bind_all.Given as goal

abbrev pub invariant-loop-name : goal.invariant-loop-name
invariant-loop-name l = (name : List ℕ) → binding_in l.bindings name
    ≡ bound l.binding (map now_of (take l.name-index l.names)) (λ n. binding_in l.fn.bindings n) name
