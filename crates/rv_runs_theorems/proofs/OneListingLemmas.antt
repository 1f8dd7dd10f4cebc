-- Sources have one listing at a map.

use Rattle.std.proofs.Common.{◌≡◌, ℕ, ◌+◌, Bool, List, [], ◌∷◌, ◌++◌, flat_map, filter, is_lt, refl, sym, ap, ◌∙◌, subst, arith, Option, Some}
use Rattle.std.proofs.lemmas.List.Sorted.{ranks_by}
use Rattle.std.specs.Cmp.{IsStrictWeakOrder}
use Rattle.rv_parcel.specs.declared.form.Compressed.{Compressed}
use Rattle.rv_parcel.specs.Encoded.{IsLeastAs}
use Rattle.rv_statement_laws.specs.Statement.{StatementKind, Label, Numbered, Instruction, Directs}
use Rattle.rv_pseudo_laws.specs.Code.{Part, Closed, Open, Joined}
use Rattle.rv_source_laws.specs.Program.{Mapped, Program}
use Rattle.rv_source_laws.specs.Lines.{form_at, Line, Lie}
use Rattle.rv_listing_laws.specs.Listing.{statement}
use Rattle.rv_listing_laws.proofs.OrderedLemmas.{one_order, compared_total}
use Rattle.rv_assemble_laws.proofs.EncodedLemmas.{least_one_as}
use Rattle.rv_chain_laws.specs.Contents.{AreSized, ArePadding, HasSizes}
use Rattle.rv_chain_laws.specs.SourceListing.{is_listed, by_row, line_text, IsEntry, AreEntries, IsSourceListing}
use Rattle.rv_runs_theorems.proofs.ContentsLemmas.{instructions_of as instructions}

-- ---- a statement has one list of lines

one_line : (l m : Line) → l.address ≡ m.address → l.bytes ≡ m.bytes → l.instruction ≡ m.instruction → l ≡ m
one_line l m address bytes instruction = λ i. record { address = address i; bytes = bytes i; instruction = instruction i }

-- the first lines of two lists are one where they have the same size, and so are the others
join : (l m : Line) (ls ms : List Line) (a : ℕ) → l.address ≡ a → m.address ≡ a → l.bytes ≡ m.bytes → instructions (l ∷ ls) ≡ instructions (m ∷ ms)
    → (instructions ls ≡ instructions ms → ls ≡ ms) → (l ∷ ls) ≡ (m ∷ ms)
join l m ls ms a at at' size same rest =
    let head : l.instruction ≡ m.instruction = cc in
    let tail : instructions ls ≡ instructions ms = cc in
    ap (λ k. k ∷ ls) (one_line l m (at ∙ sym at') size head) ∙ ap (λ ks. m ∷ ks) (rest tail)

-- they go on at the same address
onward : (l m : Line) (ms : List Line) (a stop : ℕ) → l.bytes ≡ m.bytes → Lie (a + m.bytes) ms stop → Lie (a + l.bytes) ms stop
onward l m ms a stop size lie = subst (λ n. Lie (a + n) ms stop) (sym size) lie

sized_one : (named : Option Compressed) (c : Bool) (ps : List Part) (ls ms : List Line) (a stop : ℕ) → AreSized named c ps ls → AreSized named c ps ms → Lie a ls stop → Lie a ms stop → instructions ls ≡ instructions ms → ls ≡ ms
sized_one named c [] [] [] a stop s s' lie lie' same = refl
sized_one named c [] [] (m ∷ ms) a stop s s' lie lie' same = absurd s'
sized_one named c [] (l ∷ ls) ms a stop s s' lie lie' same = absurd s
sized_one named c (Closed i ∷ ps) [] ms a stop s s' lie lie' same = absurd s
sized_one named c (Closed i ∷ ps) (l ∷ ls) [] a stop s s' lie lie' same = absurd s'
sized_one named c (Closed i ∷ ps) (l ∷ ls) (m ∷ ms) a stop (s, ss) (s', ss') (at, lie) (at', lie') same =
    let head : l.instruction ≡ m.instruction = cc in
    let size : l.bytes ≡ m.bytes = least_one_as named c m.instruction l.bytes m.bytes (subst (λ j. IsLeastAs named c j l.bytes) head s) s' in
    join l m ls ms a at at' size same (sized_one named c ps ls ms (a + l.bytes) stop ss ss' lie (onward l m ms a stop size lie'))
sized_one named c (Open k i ∷ ps) [] ms a stop s s' lie lie' same = absurd s
sized_one named c (Open k i ∷ ps) (l ∷ ls) [] a stop s s' lie lie' same = absurd s'
sized_one named c (Open k i ∷ ps) (l ∷ ls) (m ∷ ms) a stop (s, ss) (s', ss') (at, lie) (at', lie') same =
    let size : l.bytes ≡ m.bytes = s ∙ sym s' in
    join l m ls ms a at at' size same (sized_one named c ps ls ms (a + l.bytes) stop ss ss' lie (onward l m ms a stop size lie'))
sized_one named c (Joined k i j ∷ ps) [] ms a stop s s' lie lie' same = absurd s
sized_one named c (Joined k i j ∷ ps) (l ∷ []) ms a stop s s' lie lie' same = absurd s
sized_one named c (Joined k i j ∷ ps) (l ∷ l' ∷ ls) [] a stop s s' lie lie' same = absurd s'
sized_one named c (Joined k i j ∷ ps) (l ∷ l' ∷ ls) (m ∷ []) a stop s s' lie lie' same = absurd s'
sized_one named c (Joined k i j ∷ ps) (l ∷ l' ∷ ls) (m ∷ m' ∷ ms) a stop (s, t, ss) (s', t', ss') (at, (on, lie)) (at', (on', lie')) same =
    let size : l.bytes ≡ m.bytes = s ∙ sym s' in
    let more : l'.bytes ≡ m'.bytes = t ∙ sym t' in
    let second : m'.address ≡ a + l.bytes = on' ∙ ap (λ n. a + n) (sym size) in
    let rest : Lie (a + l.bytes + l'.bytes) ms stop = subst (λ n. Lie (a + n + l'.bytes) ms stop) (sym size) (onward l' m' ms (a + m.bytes) stop more lie') in
    join l m (l' ∷ ls) (m' ∷ ms) a at at' size same
    (λ tail. join l' m' ls ms (a + l.bytes) on second more tail (sized_one named c ps ls ms (a + l.bytes + l'.bytes) stop ss ss' lie rest))

padding_one : (ls ms : List Line) (a stop : ℕ) → ArePadding ls → ArePadding ms → Lie a ls stop → Lie a ms stop → instructions ls ≡ instructions ms → ls ≡ ms
padding_one [] [] a stop s s' lie lie' same = refl
padding_one [] (m ∷ ms) a stop s s' lie lie' same = absurd (cc)
padding_one (l ∷ ls) [] a stop s s' lie lie' same = absurd (cc)
padding_one (l ∷ []) (m ∷ []) a stop s s' (at, ends) (at', ends') same =
    let size : l.bytes ≡ m.bytes = omega (arith, ends, ends') in
    join l m [] [] a at at' size same (λ tail. refl)
padding_one (l ∷ []) (m ∷ m' ∷ ms) a stop s s' lie lie' same = absurd (cc)
padding_one (l ∷ l' ∷ ls) (m ∷ []) a stop s s' lie lie' same = absurd (cc)
padding_one (l ∷ l' ∷ ls) (m ∷ m' ∷ ms) a stop (s, ss) (s', ss') (at, lie) (at', lie') same =
    let size : l.bytes ≡ m.bytes = s ∙ sym s' in
    join l m (l' ∷ ls) (m' ∷ ms) a at at' size same (padding_one (l' ∷ ls) (m' ∷ ms) (a + l.bytes) stop ss ss' lie (onward l m (m' ∷ ms) a stop size lie'))

lines_one : (named : Option Compressed) (rvc : Bool) (ps : List Part) (kind : StatementKind) (ls ms : List Line) (a stop : ℕ) → HasSizes named rvc ps kind ls → HasSizes named rvc ps kind ms → Lie a ls stop → Lie a ms stop
    → instructions ls ≡ instructions ms → ls ≡ ms
lines_one named rvc ps (Directs d) ls ms a stop s s' = padding_one ls ms a stop s s'
lines_one named rvc ps (Label name) ls ms a stop s s' = sized_one named _ ps ls ms a stop s s'
lines_one named rvc ps (Numbered number) ls ms a stop s s' = sized_one named _ ps ls ms a stop s s'
lines_one named rvc ps (Instruction mnemonic operands) ls ms a stop s s' = sized_one named _ ps ls ms a stop s s'

-- ---- entries, and the listing

entry_one : (p : Program) (s : Mapped) (text other : List ℕ) → IsEntry p s text → IsEntry p s other → text ≡ other
entry_one p s text other a b =
    let parts : Some a.ps ≡ Some b.ps = sym a.are_parts ∙ b.are_parts in
    let same : a.ps ≡ b.ps = cc in
    let expansions : Some (instructions a.lines) ≡ Some (instructions b.lines) = sym a.are_lines.0 ∙ b.are_lines.0 in
    let instructions_same : instructions a.lines ≡ instructions b.lines = cc in
    let named = form_at p s in
    let rvc = s.located.options.rvc in
    let kind = s.located.kind in
    let lines : a.lines ≡ b.lines =
    lines_one named rvc b.ps kind a.lines b.lines s.row.address (s.row.address + s.row.bytes) (subst (λ ps. HasSizes named rvc ps kind a.lines) same a.sizes) b.sizes a.are_lines.1 b.are_lines.1 instructions_same in
    a.shows ∙ ap (λ ls. statement s.row ++ flat_map line_text ls) lines ∙ sym b.shows

entries_one : (p : Program) (ss : List Mapped) (text other : List ℕ) → AreEntries p ss text → AreEntries p ss other → text ≡ other
entries_one p [] text other a b = a ∙ sym b
entries_one p (s ∷ ss) text other (first, (rest, joined, one, more)) (first', (rest', joined', one', more')) =
    joined ∙ ap (λ t. t ++ rest) (entry_one p s first first' one one') ∙ ap (λ t. first' ++ t) (entries_one p ss rest rest' more more') ∙ sym joined'

before_ranks : IsStrictWeakOrder (λ s t. is_lt (by_row s t))
before_ranks = ranks_by compared_total (λ (s : Mapped). s.row)

pub one_source_listing : (p : Program) (text other : List ℕ) → IsSourceListing p text → IsSourceListing p other → text ≡ other
one_source_listing p text other a b =
    let same : a.statements ≡ b.statements =
    one_order (λ s t. is_lt (by_row s t)) before_ranks (filter is_listed p.mapped) a.statements b.statements a.order.sorted a.order.stable b.order.sorted b.order.stable in
    entries_one p b.statements text other (subst (λ ss. AreEntries p ss text) same a.entries) b.entries
