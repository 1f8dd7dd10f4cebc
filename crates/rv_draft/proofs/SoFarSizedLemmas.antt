-- The size of one item more.

use Rattle.std.proofs.Common.{◌≡◌, ℕ, suc, ◌+◌, true, List, [], ◌∷◌, ◌++◌, drop, sym, subst, append-nil, append_assoc, arith}
use Rattle.std.specs.Prelude.{slice_index_or}
use Rattle.rv_list_laws.proofs.TakeDropLemmas.{drop_zero}
use Rattle.rv_statement_laws.specs.Statement.{Statement}
use Rattle.rv_unit_laws.specs.Tables.{Tables, at_start, after, alignments_of}
use Rattle.rv_unit.specs.Unit.{passed}
use Rattle.rv_assemble_laws.specs.LaidStatements.{expression_value}
use Rattle.rv_draft.specs.declared.item.CodeSize.{CodeSize}
use Rattle.rv_unit.specs.declared.item.Item.{Item}
use Rattle.rv_draft.specs.Sized.{IsSized, AreSized}
use Rattle.rv_draft.proofs.StandingLemmas.{located_at}
use Rattle.rv_draft.proofs.SoFarItemsLemmas.{passed_next}

-- the sizes of the items so far, with those of what is left, are those of all items
abbrev pub AreSizedSoFar : Tables → List Statement → List CodeSize → ℕ → List Item → Type 0
AreSizedSoFar all ss sizes i so_far =
    (rest : List Item) → AreSized all (i + 1) (passed ss i) (drop i ss) rest (drop i sizes) → AreSized all 1 (at_start ss) ss (so_far ++ rest) sizes

pub sized_begin : (all : Tables) (ss : List Statement) (sizes : List CodeSize) → AreSizedSoFar all ss sizes 0 []
sized_begin all [] sizes rest h = tt
sized_begin all (s ∷ ss) sizes rest h = subst (λ l. AreSized all 1 (at_start (s ∷ ss)) (s ∷ ss) rest l) (drop_zero sizes) h

-- the item of a statement has its size where it has a place
abbrev pub IsSizedAt : Tables → List Statement → ℕ → Statement → CodeSize → Item → Type 0
IsSizedAt all ss i s size x =
    (located_at ss i s).placed ≡ true → IsSized (λ e. expression_value all (located_at ss i s) e) (located_at ss i s).home.executable x (slice_index_or (alignments_of all) x.section 1) size s.kind

pub sized_more : (all : Tables) (ss : List Statement) (sizes : List CodeSize) (i : ℕ) (s : Statement) (size : CodeSize) (so_far : List Item) (x : Item) → drop i ss ≡ s ∷ drop (i + 1) ss → drop i sizes ≡ size ∷ drop (i + 1) sizes
    → IsSizedAt all ss i s size x → AreSizedSoFar all ss sizes i so_far → AreSizedSoFar all ss sizes (i + 1) (so_far ++ x ∷ [])
sized_more all ss sizes i s size so_far x here size_is one h rest more =
    let same = passed_next ss i s (drop (i + 1) ss) here in
    let left = drop (i + 1) sizes in
    let next : i + 1 + 1 ≡ suc (i + 1) = omega arith in
    let tail : AreSized all (i + 1 + 1) (after (passed ss i) (i + 1) s.kind) (drop (i + 1) ss) rest left =
    subst (λ t. AreSized all (i + 1 + 1) t (drop (i + 1) ss) rest left) same more in
    let tail' : AreSized all (suc (i + 1)) (after (passed ss i) (i + 1) s.kind) (drop (i + 1) ss) rest left =
    subst (λ n. AreSized all n (after (passed ss i) (i + 1) s.kind) (drop (i + 1) ss) rest left) next tail in
    subst (λ l. AreSized all 1 (at_start ss) ss l sizes) (sym (append_assoc so_far (x ∷ []) rest))
    (h (x ∷ rest)
    (subst (λ l. AreSized all (i + 1) (passed ss i) (drop i ss) (x ∷ rest) l) (sym size_is)
    (subst (λ l. AreSized all (i + 1) (passed ss i) l (x ∷ rest) (size ∷ left)) (sym here) (one, tail'))))

pub sized_all : (all : Tables) (ss : List Statement) (sizes : List CodeSize) (i : ℕ) (so_far : List Item) → drop i ss ≡ [] → AreSizedSoFar all ss sizes i so_far → AreSized all 1 (at_start ss) ss so_far sizes
sized_all all ss sizes i so_far none h =
    subst (λ l. AreSized all 1 (at_start ss) ss l sizes) (append-nil so_far)
    (h [] (subst (λ l. AreSized all (i + 1) (passed ss i) l [] (drop i sizes)) (sym none) tt))
