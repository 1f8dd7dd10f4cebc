use Rattle.std.proofs.Common.{rules, ◌≡◌, ◌∙◌, List, ℕ, Some, true, option_map, ap, sym, subst}
use Rattle.std.specs.Borrow.{Bor}
use Rattle.std.specs.Map.{lookup}
use Rattle.std.specs.Str.{bytes_eq}
use Rattle.rv_list_laws.proofs.ElementsLemmas.{same_bytes}
use Rattle.rv_unit.specs.Tables.{label_at}
use Rattle.rv_unit.proofs.LookupsLemmas.{label_found}
use Rattle.rv_unit.proofs.tables.Tables.label_hinted.Goals as goal

pub returns-then-eq : goal.returns-then-eq
returns-then-eq c =
    let name = c.args.name.now in
    let es = c.args.self.now.labels.entries in
    let label = c.in-Some.label.now in
    let equal : bytes_eq c.in-Some.key.now.now name ≡ true = search rules in
    let found : lookup (λ (k : Bor (List ℕ)). bytes_eq name k.now) es ≡ Some label =
    subst (λ n. lookup (λ (k : Bor (List ℕ)). bytes_eq n k.now) es ≡ Some label) (same_bytes c.in-Some.key.now.now name equal) c.in-Some.ensures.value in
    sym (ap (option_map (label_at name)) found) ∙ label_found name es
