-- The statement that is at fault, by the ordinal that is told for its line.

use Rattle.std.proofs.Common.{◌≡◌, ◌<◌, ◌≤◌, ℕ, ◌-◌, List, length, map, sym, ap, ◌∙◌, subst, arith, Option, Some, None, inl, inr}
use Rattle.std.specs.Prelude.{Result, Ok, Err, IfOk, IfSome, IfNone, slice_index}
use Rattle.std.proofs.lemmas.Option.{slice_get_within}
use Rattle.std.specs.declared.alloc.AllocError.{AllocError}
use Rattle.rv_list_laws.proofs.ElementsLemmas.{get_or_get, get_some}
use Rattle.rv_list_laws.proofs.MapLemmas.{get_map}
use Rattle.rv_fault.specs.declared.source_fault.SourceCode.{SourceCode}
use Rattle.rv_fault.specs.declared.source_fault.SourceFault.TheVariants.{At}
use Rattle.rv_fault.specs.SourceFault.{source_fault_number}
use Rattle.rv_statement_laws.specs.Limits.{most_statements}
use Rattle.rv_statement_laws.specs.Statement.{Statement}
use Rattle.rv_parse_laws.specs.Reading.{Reads}
use Rattle.rv_parse_laws.specs.Refusals.{RefusesAt}
use Rattle.rv_parse.specs.Offsets.{BeginsAt, BeginIn}
use Rattle.rv_assemble_laws.specs.Refusals.{statements_fault, IsStatementsFault}
use Rattle.rv_assemble_laws.specs.FirstFault.{IsFirstFault}
use Rattle.rv_assemble.specs.declared.placed.Culprit.{Culprit}
use Rattle.rv_assemble.specs.declared.placed.Culprit.TheVariants.{Byte, Statement as Faulty}
use Rattle.rv_assemble.specs.declared.placed.PlacedFault.{PlacedFault}
use Rattle.rv_assemble.specs.Ordinals.{by_ordinal, line_of, IsRefusedFor}
use Rattle.rv_assemble.specs.Placed.{BeginsIn, IsCulprit, IsPlaced}
use Rattle.rv_assemble.proofs.OrdinalsLemmas.{refused_for}

-- the ordinal that is told is one of a statement
pub ordinal_inside : (ss now : List Statement) (code ordinal : ℕ) → length ss ≤ most_statements → now ≡ by_ordinal ss → IsStatementsFault now (record { code = code; line = ordinal })
    → (1 ≤ ordinal) × (ordinal ≤ length ss)
ordinal_inside ss now code ordinal few is fault =
    let found = refused_for ss code ordinal few (subst (λ (l : List Statement). IsStatementsFault l (record { code = code; line = ordinal })) is fault) in
    let inside : found.1.at.index < length ss = slice_get_within ss found.1.at.index found.1.at.statement found.1.at.got in
    (omega (arith, found.1.at.ordinal_is), omega (arith, found.1.at.ordinal_is, inside))

-- the fault of that statement, by the lines and the offsets of all
pub placed_at : (text : List ℕ) (ss now : List Statement) (lines offsets : List ℕ) (f : PlacedFault) (code : SourceCode) (ordinal : ℕ) → length ss ≤ most_statements → now ≡ by_ordinal ss
    → IsStatementsFault now (record { code = source_fault_number code; line = ordinal }) → lines ≡ map line_of ss → Reads text ss → BeginIn text ss offsets
    → f.code ≡ code → f.line ≡ slice_index lines (ordinal - 1) → f.culprit ≡ Faulty ordinal (slice_index offsets (ordinal - 1)) → IsPlaced text f
placed_at text ss now lines offsets f code ordinal few is fault lines_are reads (ts, lexes, have) code_is line_is culprit_is =
    let number = source_fault_number code in
    let found = refused_for ss number ordinal few (subst (λ (l : List Statement). IsStatementsFault l (record { code = number; line = ordinal })) is fault) in
    let at = found.1.at in
    let i = at.index in
    let index_is : ordinal - 1 ≡ i = omega (arith, at.ordinal_is) in
    let inside : i < length ss = slice_get_within ss i at.statement at.got in
    let line : f.line ≡ found.0 =
    line_is ∙ ap (slice_index lines) index_is ∙ ap (λ (l : List ℕ). slice_index l i) lines_are ∙ get_or_get (map line_of ss) i 0 (at.statement).line (get_map line_of ss i at.statement at.got)
    ∙ sym at.line_is in
    let offset = get_some offsets i (subst (λ n. i < n) (sym have.each) inside) in
    let offset_is : offset.0 ≡ slice_index offsets (ordinal - 1) = sym (ap (slice_index offsets) index_is ∙ get_or_get offsets i 0 offset.0 offset.1) in
    let begins : BeginsIn text ss ordinal (slice_index offsets (ordinal - 1)) =
    (ts, lexes, i, at.ordinal_is, subst (BeginsAt ts ss i) offset_is (have.begin i offset.0 offset.1)) in
    let refused : IsRefusedFor ss (source_fault_number f.code) ordinal f.line =
    subst (λ n. IsRefusedFor ss (source_fault_number f.code) ordinal n) (sym line) (subst (λ (c : SourceCode). IsRefusedFor ss (source_fault_number c) ordinal found.0) (sym code_is) found.1) in
    subst (λ (u : Culprit). IsCulprit text (source_fault_number f.code) f.line u) (sym culprit_is) (ss, reads, refused, begins)

-- a fault with its place is the first of its source
without_place : (text : List ℕ) (place : ℕ) (code : SourceCode) (line : ℕ) → RefusesAt text place (record { code = source_fault_number code; line = line }) → IsFirstFault text (At code line)
without_place text place code line (inl (long, front, same)) = inl (inl (long, same))
without_place text place code line (inr (short, first, at)) = inl (inr (short, first))

pub first_of : (text : List ℕ) (code : SourceCode) (line : ℕ) (u : Culprit) → IsCulprit text (source_fault_number code) line u → IsFirstFault text (At code line)
first_of text code line (Byte offset) refuses = without_place text offset code line refuses
first_of text code line (Faulty ordinal offset) (ss, reads, refused, begins) = inr (ss, reads, refused.fault)

pub placed_first : (text : List ℕ) (r : Result (Option PlacedFault) AllocError) → IfOk r (λ found. IfSome found (λ f. IsPlaced text f)) → IfOk r (λ found. IfSome found (λ f. IsFirstFault text (At f.code f.line)))
placed_first text (Ok None) h = tt
placed_first text (Ok (Some f)) h = first_of text f.code f.line f.culprit h
placed_first text (Err e) h = tt

-- statements that a source is read as, and that have no fault
pub none_found : (text : List ℕ) (ss : List Statement) (r : Result (Option PlacedFault) AllocError) → Reads text ss → IfOk r (λ found. IfNone found (statements_fault ss ≡ None))
    → IfOk r (λ found. IfNone found ((read : List Statement) × Reads text read × (statements_fault read ≡ None)))
none_found text ss (Ok None) reads h = (ss, reads, h)
none_found text ss (Ok (Some f)) reads h = tt
none_found text ss (Err e) reads h = tt
