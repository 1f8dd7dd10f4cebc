-- Why there is no file by the text of a map.

use Rattle.std.proofs.Common.{◌≡◌, ℕ, List, subst}
use Rattle.std.specs.Prelude.{Result, Ok, Err, IfErr}
use Rattle.rv_map_laws.specs.Map.{Map}
use Rattle.rv_debug_laws.specs.declared.line_row.SourceFile.{SourceFile}
use Rattle.rv_debug_laws.specs.Symbols.{Names}
use Rattle.rv_debug.specs.declared.fault.DebugFault.{DebugFault}
use Rattle.rv_debug.specs.declared.fault.DebugFault.TheVariants as faults
use Rattle.rv_debug.specs.Refused.{IsDebugRefused, IsTextOf, IsTextRefused}

module _ (exe text : List ℕ) (names_of : Map → Names) (directory : List ℕ) (sources : List SourceFile) (m : Map) (names : Names)
    (is : IsTextOf text m) (same : names ≡ names_of m) where
  of_fault : (fault : DebugFault) → IsDebugRefused exe m names directory sources fault → IsTextRefused exe text names_of directory sources fault
  of_fault faults.NoMap h = absurd h
  of_fault faults.OtherExecutable h = (m, is, subst (λ n. IsDebugRefused exe m n directory sources faults.OtherExecutable) same h)
  of_fault faults.RowsOutOfOrder h = (m, is, subst (λ n. IsDebugRefused exe m n directory sources faults.RowsOutOfOrder) same h)
  of_fault faults.TooLong h = (m, is, subst (λ n. IsDebugRefused exe m n directory sources faults.TooLong) same h)
  of_fault faults.OutOfMemory h = tt

  pub refused_by : {X : Type 0} (r : Result X DebugFault) → IfErr r (IsDebugRefused exe m names directory sources)
      → IfErr r (IsTextRefused exe text names_of directory sources)
  refused_by (Ok x) h = h
  refused_by (Err fault) h = of_fault fault h
