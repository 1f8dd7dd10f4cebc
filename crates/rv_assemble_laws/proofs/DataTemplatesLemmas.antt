-- What holds of fixed bytes and of each value holds of all templates of data.

use Rattle.std.proofs.Common.{ℕ, List, [], ◌∷◌, map}
use Rattle.std.specs.List.{AllByRecursion}
use Rattle.rv_expression_laws.specs.Values.{Value}
use Rattle.rv_statement_laws.specs.Statement.{Expression, Data, Values, Strings, Zeros}
use Rattle.rv_assemble_laws.specs.Templates.{Template, Fixed, Datum, templates_of_data}
use Rattle.rv_unit_laws.specs.Tables.{string_bytes}

module _ (P : Template → Type 0) (fixed : (bytes : List ℕ) → P (Fixed bytes)) (datum : (width : ℕ) (value : Value) → P (Datum width value)) where
  each_value : (width : ℕ) (v : Expression → Value) (es : List Expression) → AllByRecursion P (map (λ e. Datum width (v e)) es)
  each_value width v [] = tt
  each_value width v (e ∷ es) = (datum width (v e), each_value width v es)

  pub each_datum : (v : Expression → Value) (contents : Data) (bytes : ℕ) → AllByRecursion P (templates_of_data v contents bytes)
  each_datum v (Values width es) bytes = each_value width v es
  each_datum v (Strings ended strings) bytes = (fixed (string_bytes ended strings), tt)
  each_datum v (Zeros count) bytes = (fixed _, tt)
