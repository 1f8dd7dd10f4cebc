-- One item more.

use Rattle.std.proofs.Common.{◌≡◌, ℕ, zero, suc, ◌+◌, List, [], ◌∷◌, ◌++◌, take, drop, refl, sym, ap, ◌∙◌, subst, append-nil, append_assoc, arith}
use Rattle.std.specs.Prelude.{if◌then◌else◌, ◌==◌}
use Rattle.rv_statement_laws.specs.Statement.{Statement}
use Rattle.rv_unit_laws.specs.Tables.{Tables, at_start, after, after_all}
use Rattle.rv_unit.specs.Unit.{passed}
use Rattle.rv_source_laws.specs.Located.{Located, located_now}
use Rattle.rv_unit.specs.declared.item.Item.{Item}
use Rattle.rv_draft.specs.Items.{IsItem, AreItems, grown}
use Rattle.rv_draft.proofs.StandingLemmas.{located_at}

-- the tables after one statement more
passed_left : (k : ℕ) (t : Tables) (ss : List Statement) (i : ℕ) (s : Statement) (rest : List Statement) → drop i ss ≡ s ∷ rest → after_all t k (take (suc i) ss) ≡ after (after_all t k (take i ss)) (i + k) s.kind
passed_left k t [] zero s rest e = absurd (cc)
passed_left k t [] (suc i) s rest e = absurd (cc)
passed_left k t (x ∷ xs) zero s rest e = let same : x ≡ s = cc in ap (λ y. after t k y.kind) same ∙ ap (λ n. after t n s.kind) (let f : k ≡ 0 + k = omega arith in f)
passed_left k t (x ∷ xs) (suc i) s rest e =
    passed_left (suc k) (after t k x.kind) xs i s rest e
    ∙ ap (λ n. after (after_all (after t k x.kind) (suc k) (take i xs)) n s.kind) (let f : i + suc k ≡ suc i + k = omega arith in f)

pub passed_next : (ss : List Statement) (i : ℕ) (s : Statement) (rest : List Statement) → drop i ss ≡ s ∷ rest → passed ss (i + 1) ≡ after (passed ss i) (i + 1) s.kind
passed_next ss i s rest e = ap (λ n. passed ss n) (let f : i + 1 ≡ suc i = omega arith in f) ∙ passed_left 1 (at_start ss) ss i s rest e

item_alike : (s : Located) (f g : ℕ → ℕ) (x : Item) → ((j : ℕ) → f j ≡ g j) → IsItem s f x → IsItem s g x
item_alike s f g x same h = record { section = h.section; offset = h.offset ∙ same s.section; line = h.line; shown = h.shown; absent = h.absent }

-- the same bytes before them make the same items
items_alike : (o : ℕ) (t : Tables) (f g : ℕ → ℕ) (ss : List Statement) (is : List Item) (last : ℕ → ℕ) → ((j : ℕ) → f j ≡ g j) → AreItems o t f ss is last → AreItems o t g ss is last
items_alike o t f g [] [] last same h = λ j. h j ∙ same j
items_alike o t f g [] (x ∷ is) last same h = h
items_alike o t f g (s ∷ ss) [] last same h = h
items_alike o t f g (s ∷ ss) (x ∷ is) last same h = (
  item_alike (located_now 1 o t s) f g x same h.0,
  items_alike (suc o) (after t o s.kind) (grown f x) (grown g x) ss is last (λ j. ap (λ n. if j == x.section then n + x.bytes else n) (same j)) h.1,
)

-- the items so far, with those of what is left, are all items
abbrev pub AreItemsSoFar : List Statement → ℕ → (ℕ → ℕ) → List Item → Type 0
AreItemsSoFar ss i before so_far =
    (rest : List Item) (last : ℕ → ℕ) → AreItems (i + 1) (passed ss i) before (drop i ss) rest last → AreItems 1 (at_start ss) (λ j. 0) ss (so_far ++ rest) last

pub items_begin : (ss : List Statement) (before : ℕ → ℕ) → ((j : ℕ) → before j ≡ 0) → AreItemsSoFar ss 0 before []
items_begin [] before zeros rest last h = items_alike 1 (at_start []) before (λ j. 0) [] rest last zeros h
items_begin (s ∷ ss) before zeros rest last h = items_alike 1 (at_start (s ∷ ss)) before (λ j. 0) (s ∷ ss) rest last zeros h

pub items_more : (ss : List Statement) (i : ℕ) (s : Statement) (before behind : ℕ → ℕ) (so_far : List Item) (x : Item) → drop i ss ≡ s ∷ drop (i + 1) ss
    → IsItem (located_at ss i s) before x → ((j : ℕ) → behind j ≡ grown before x j)
    → AreItemsSoFar ss i before so_far → AreItemsSoFar ss (i + 1) behind (so_far ++ x ∷ [])
items_more ss i s before behind so_far x here one grows h rest last more =
    let same = passed_next ss i s (drop (i + 1) ss) here in
    let next : i + 1 + 1 ≡ suc (i + 1) = omega arith in
    let tail : AreItems (i + 1 + 1) (after (passed ss i) (i + 1) s.kind) behind (drop (i + 1) ss) rest last =
    subst (λ t. AreItems (i + 1 + 1) t behind (drop (i + 1) ss) rest last) same more in
    let tail' : AreItems (suc (i + 1)) (after (passed ss i) (i + 1) s.kind) behind (drop (i + 1) ss) rest last =
    subst (λ n. AreItems n (after (passed ss i) (i + 1) s.kind) behind (drop (i + 1) ss) rest last) next tail in
    let behind' = items_alike (suc (i + 1)) (after (passed ss i) (i + 1) s.kind) behind (grown before x) (drop (i + 1) ss) rest last grows tail' in
    subst (λ l. AreItems 1 (at_start ss) (λ j. 0) ss l last) (sym (append_assoc so_far (x ∷ []) rest))
    (h (x ∷ rest) last (subst (λ l. AreItems (i + 1) (passed ss i) before l (x ∷ rest) last) (sym here) (one, behind')))

pub items_all : (ss : List Statement) (i : ℕ) (before : ℕ → ℕ) (so_far : List Item) → drop i ss ≡ [] → AreItemsSoFar ss i before so_far → AreItems 1 (at_start ss) (λ j. 0) ss so_far before
items_all ss i before so_far none h =
    subst (λ l. AreItems 1 (at_start ss) (λ j. 0) ss l before) (append-nil so_far)
    (h [] before (subst (λ l. AreItems (i + 1) (passed ss i) before l [] before) (sym none) (λ j. refl)))
