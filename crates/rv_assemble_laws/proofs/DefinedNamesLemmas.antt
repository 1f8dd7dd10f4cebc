-- The names that the statements of a source define are not empty.

use Rattle.std.proofs.Common.{◌≡◌, ℕ, suc, Bool, true, false, List, [], ◌∷◌, map, refl, ap, ◌∙◌}
use Rattle.std.specs.Prelude.{if◌then◌else◌}
use Rattle.std.specs.List.{AllByRecursion, list_all}
use Rattle.std.specs.Str.{bytes_eq}
use Rattle.std.proofs.lemmas.Bool.{and_parts}
use Rattle.rv_statement_laws.specs.Statement.{StatementKind, Label, Directs, Statement, Sets}
use Rattle.rv_unit_laws.specs.Tables.{Tables, after}
use Rattle.rv_map_laws.specs.Name.{is_name}
use Rattle.rv_source_laws.specs.Located.{Located, located_from}
use Rattle.rv_source_laws.specs.Exports.{sets_first, defined_name}
use Rattle.rv_assemble_laws.specs.LaidStatements.{LaidStatement}
use Rattle.rv_assemble_laws.specs.ShownNames.{said_names, are_shown, HasNames}

abbrev pub AreSome : Tables → Located → Type 0
AreSome t l = AllByRecursion (λ n. bytes_eq n [] ≡ false) (defined_name t l.ordinal l.kind)

shown_some : (n : List ℕ) → is_name n ≡ true → bytes_eq n [] ≡ false
shown_some [] e = absurd (cc)
shown_some (b ∷ bs) e = refl

if_some : (b : Bool) (n : List ℕ) → bytes_eq n [] ≡ false → AllByRecursion (λ n. bytes_eq n [] ≡ false) (if b then n ∷ [] else [])
if_some true n e = (e, tt)
if_some false n e = tt

defined_some : (t : Tables) (o : ℕ) (kind : StatementKind) → are_shown (said_names kind) ≡ true → AllByRecursion (λ n. bytes_eq n [] ≡ false) (defined_name t o kind)
defined_some t o (Label n) e = (shown_some n (and_parts (is_name n) true e).0, tt)
defined_some t o (Directs (Sets n x)) e = if_some (sets_first t.assignments o n) n (shown_some n (and_parts (is_name n) _ e).0)
defined_some t o kind e = tt

pub names_some : (t u : Tables) (k : ℕ) (ss : List Statement) (laid : List LaidStatement) → map (λ s. s.located) laid ≡ located_from 1 k u ss → HasNames ss
    → AllByRecursion (λ s. AreSome t s.located) laid
names_some t u k ss [] e h = tt
names_some t u k [] (s ∷ laid) e h = absurd (cc)
names_some t u k (x ∷ ss) (s ∷ laid) e h =
    let both = front _ _ _ _ e in
    let parts = and_parts (are_shown (said_names x.kind)) (list_all (λ (s : Statement). are_shown (said_names s.kind)) ss) h in
    let kind : s.located.kind ≡ x.kind = ap (λ (l : Located). l.kind) both.0 in (
      defined_some t s.located.ordinal s.located.kind (ap (λ k. are_shown (said_names k)) kind ∙ parts.0),
      names_some t (after u k x.kind) (suc k) ss laid both.1 parts.1,
    )
  where
    front : {A : Type 0} (x y : A) (xs ys : List A) → x ∷ xs ≡ y ∷ ys → (x ≡ y) × (xs ≡ ys)
    front x y xs ys e = (cc, cc)
