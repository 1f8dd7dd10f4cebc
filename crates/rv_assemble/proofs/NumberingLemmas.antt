-- Statements that get their ordinals as their lines, one by one.

use Rattle.std.proofs.Common.{◌≡◌, ◌<◌, ◌≤◌, ℕ, ◌+◌, List, [], ◌∷◌, ◌++◌, length, map, take, drop, set, refl, sym, ap, ◌∙◌, arith, append_assoc, append-nil, slice_get, Some}
use Rattle.std.proofs.lemmas.List.{take_more_set, drop-set-lt, drop_all, take_all}
use Rattle.std.proofs.lemmas.Option.{slice_get_within}
use Rattle.rv_list_laws.proofs.NumbersLemmas.{suc_is_next}
use Rattle.rv_list_laws.proofs.TakeDropLemmas.{drop_next}
use Rattle.rv_statement_laws.specs.Statement.{Statement}
use Rattle.rv_assemble.specs.Ordinals.{line_of, by_ordinal_from, by_ordinal}

-- so many statements have their ordinals, the others their lines; and the lines that they had
pub record IsNumberedTo (i : ℕ) (old now : List Statement) (lines : List ℕ) : Type 0 where
  pub done : take i now ++ by_ordinal_from (i + 1) (drop i now) ≡ by_ordinal old
  pub had : lines ++ map line_of (drop i now) ≡ map line_of old

pub none_numbered : (old : List Statement) → IsNumberedTo 0 old old []
none_numbered old = record { done = refl; had = refl }

pub numbered_next : (i : ℕ) (old now new : List Statement) (lines more : List ℕ) (s : Statement) → IsNumberedTo i old now lines → slice_get now i ≡ Some s
    → new ≡ set now i (record { line = i + 1; kind = s.kind }) → more ≡ lines ++ s.line ∷ [] → IsNumberedTo (i + 1) old new more
numbered_next i old now new lines more s so got changed pushed =
    let inside : i < length now = slice_get_within now i s got in
    let rest : drop i now ≡ s ∷ drop (i + 1) now = drop_next now i s got in
    let same : Statement = record { line = i + 1; kind = s.kind } in
    let front : take (i + 1) new ≡ take i now ++ same ∷ [] = ap (λ (l : List Statement). take (i + 1) l) changed ∙ take_more_set now i same inside in
    let back : drop (i + 1) new ≡ drop (i + 1) now = ap (λ (l : List Statement). drop (i + 1) l) changed ∙ drop-set-lt (i + 1) now i same (omega arith) in
    let ordinals : by_ordinal_from (i + 1) (drop i now) ≡ same ∷ by_ordinal_from (i + 1 + 1) (drop (i + 1) now) =
    ap (by_ordinal_from (i + 1)) rest ∙ ap (λ n. same ∷ by_ordinal_from n (drop (i + 1) now)) (suc_is_next (i + 1)) in
    record {
      done = ap (λ (l : List Statement). l ++ by_ordinal_from (i + 1 + 1) (drop (i + 1) new)) front ∙ ap (λ (l : List Statement). (take i now ++ same ∷ []) ++ by_ordinal_from (i + 1 + 1) l) back
          ∙ append_assoc (take i now) (same ∷ []) (by_ordinal_from (i + 1 + 1) (drop (i + 1) now)) ∙ ap (λ (l : List Statement). take i now ++ l) (sym ordinals) ∙ so.done;
      had = ap (λ (l : List ℕ). l ++ map line_of (drop (i + 1) new)) pushed ∙ ap (λ (l : List Statement). (lines ++ s.line ∷ []) ++ map line_of l) back
          ∙ append_assoc lines (s.line ∷ []) (map line_of (drop (i + 1) now)) ∙ ap (λ (l : List Statement). lines ++ map line_of l) (sym rest) ∙ so.had;
    }

pub all_numbered : (i : ℕ) (old now : List Statement) (lines : List ℕ) → length now ≤ i → IsNumberedTo i old now lines → now ≡ by_ordinal old
all_numbered i old now lines past so =
    sym (ap (λ (l : List Statement). l ++ by_ordinal_from (i + 1) (drop i now)) (take_all i now past) ∙ ap (λ (l : List Statement). now ++ by_ordinal_from (i + 1) l) (drop_all i now past) ∙ append-nil now) ∙ so.done

pub all_had : (i : ℕ) (old now : List Statement) (lines : List ℕ) → length now ≤ i → IsNumberedTo i old now lines → lines ≡ map line_of old
all_had i old now lines past so =
    sym (ap (λ (l : List Statement). lines ++ map line_of l) (drop_all i now past) ∙ append-nil lines) ∙ so.had
