-- The code of a whole source.

use Rattle.std.proofs.Common.{◌≡◌, ℕ, zero, suc, ◌+◌, Bool, true, Option, List, [], ◌∷◌, ◌++◌, drop, inl, inr, Some, Result, Ok, Err, sym, ap, ◌∙◌, subst, append-nil}
use Rattle.std.specs.Prelude.{slice_index, is_some}
use Rattle.std.proofs.lemmas.List.{map-append}
use Rattle.rv_list_laws.proofs.ElementsLemmas.{first_same}
use Rattle.rv_instruction.specs.Code.{near_forms_of}
use Rattle.rv_expression_laws.specs.Values.{Value}
use Rattle.rv_fault.specs.declared.source_fault.SourceFault.{SourceFault}
use Rattle.rv_fault.specs.declared.source_fault.SourceFault.TheVariants.{At, OutOfMemory}
use Rattle.rv_fault.specs.SourceFault.{source_fault_number}
use Rattle.rv_statement_laws.specs.Statement.{Expression, Statement}
use Rattle.rv_expression_laws.specs.Codes.{lowest}
use Rattle.rv_unit_laws.specs.Faults.{StatementFault}
use Rattle.rv_unit_laws.specs.Tables.{Tables, SectionOffset as Standing, at_start, tables, value_by_tables, stood}
use Rattle.rv_unit.specs.declared.section_offset.SectionOffset.{SectionOffset}
use Rattle.rv_unit.specs.declared.unit.Unit.{Unit as SourceUnit}
use Rattle.rv_unit.specs.Sections.{offset_of}
use Rattle.rv_unit.specs.Unit.{said, passed}
use Rattle.rv_source_laws.specs.Located.{Located, located, located_from}
use Rattle.rv_source_laws.specs.Sizes.{AreLeast}
use Rattle.rv_assemble_laws.specs.Refusals.{code_faults_at, code_fault_from}
use Rattle.rv_assemble_laws.specs.LaidStatements.{expression_value}
use Rattle.rv_draft.specs.Added.{IsAdded, IsAllCode, IsCodeFault, IsCodeSoFar, IsSourceCode, Adds}
use Rattle.rv_draft.specs.declared.code.Coder.{Coder}
use Rattle.rv_draft.specs.declared.code.SectionCode.{SectionCode}
use Rattle.rv_draft.proofs.SoFarLemmas.{next_code, wrong_code}
use Rattle.rv_draft.specs.Contents.{padding_at}
use Rattle.rv_draft.specs.Code.{code_size, bytes_of_sizes, size_bytes}
use Rattle.rv_draft.specs.Lengths.{HasLengthAt}
use Rattle.rv_draft.specs.Measure.{IsSize, AreSizes}
use Rattle.rv_draft.specs.declared.item.CodeSize.{CodeSize}
use Rattle.rv_draft.proofs.LengthsLemmas.{added_length}
use Rattle.rv_draft.proofs.StandingLemmas.{StandsAt, located_at}

-- the code of the first `i` statements of a source
abbrev pub CodeTo : List Statement → ℕ → Coder → Type 0
CodeTo ss i c = IsCodeSoFar (tables ss) (located_from 1 1 (at_start ss) ss) (drop i (located_from 1 1 (at_start ss) ss)) c

-- what is added where the statement stands
added_there : (t : Tables) (o wanted : ℕ) (rvc on a b : Bool) (c d : Coder) (s : Statement) (p q : Standing) (faults others : List ℕ) → p ≡ q → faults ≡ others → rvc ≡ on → a ≡ b
    → IsAdded c d p.section a faults (λ e. value_by_tables t true o p e) rvc wanted s → IsAdded c d q.section b others (λ e. value_by_tables t true o q e) on wanted s
added_there t o wanted rvc on a b c d s p q faults others e f g k h =
    subst (λ r. IsAdded c d q.section b others (λ e. value_by_tables t true o q e) r wanted s) g
    (subst (λ l. IsAdded c d q.section b l (λ e. value_by_tables t true o q e) rvc wanted s) f
    (subst (λ x. IsAdded c d q.section x faults (λ e. value_by_tables t true o q e) rvc wanted s) k (subst (λ (r : Standing). IsAdded c d r.section a faults (λ e. value_by_tables t true o r e) rvc wanted s) e h)))

pub code_more : (u : SourceUnit) (i wanted : ℕ) (x : Statement) (p : SectionOffset) (rvc b : Bool) (c d : Coder) (faults : List ℕ) → StandsAt u i x p → CodeTo (said u) i c
    → faults ≡ code_faults_at (tables (said u)) (located_at (said u) i x) → rvc ≡ (located_at (said u) i x).options.rvc → b ≡ (located_at (said u) i x).home.executable
    → IsAdded c d p.section b faults (λ e. value_by_tables (tables (said u)) true (i + 1) (offset_of p) e) rvc wanted x → CodeTo (said u) (i + 1) d
code_more u i wanted x p rvc b c d faults at h same on home added =
    let ss = said u in
    let all = located_from 1 1 (at_start ss) ss in
    let st = located_at ss i x in
    next_code (tables ss) all st (drop (i + 1) all) c d wanted
    (subst (λ rest. IsCodeSoFar (tables ss) all rest c) at.next h)
    (added_there (tables ss) (i + 1) wanted rvc st.options.rvc b st.home.executable c d x (offset_of p) (stood (passed ss i) (i + 1) x.kind) faults _ at.place same on home added)

-- and how long it is
pub told_more : (u : SourceUnit) (i wanted : ℕ) (x : Statement) (p : SectionOffset) (rvc b : Bool) (c d : Coder) (faults : List ℕ) → StandsAt u i x p
    → faults ≡ code_faults_at (tables (said u)) (located_at (said u) i x) → rvc ≡ (located_at (said u) i x).options.rvc → b ≡ (located_at (said u) i x).home.executable
    → IsAdded c d p.section b faults (λ e. value_by_tables (tables (said u)) true (i + 1) (offset_of p) e) rvc wanted x → HasLengthAt (tables (said u)) (located_at (said u) i x) wanted
    → bytes_of_sizes d.sizes.items ≡ bytes_of_sizes c.sizes.items ++ wanted ∷ []
told_more u i wanted x p rvc b c d faults at same on home added told =
    let t = tables (said u) in
    let st = located_at (said u) i x in
    let a = added_there t (i + 1) wanted rvc st.options.rvc b st.home.executable c d x (offset_of p) (stood (passed (said u) i) (i + 1) x.kind) faults _ at.place same on home added in
    let size : CodeSize = code_size (padding_at t st) a.coded in
    ap bytes_of_sizes a.counts ∙ map-append size_bytes c.sizes.items (size ∷ [])
    ∙ ap (λ n. bytes_of_sizes c.sizes.items ++ n ∷ [])
    (added_length (λ e. expression_value t st e) st.options.rvc st.home.executable (code_faults_at t st) wanted st.kind a.coded a.sound a.is a.asked told)

-- the size of a statement
pub size_here : (t : Tables) (ls : List Located) (ns : List ℕ) (i : ℕ) (l : Located) (rest : List Located) → AreSizes t ls ns → drop i ls ≡ l ∷ rest → IsSize t l (slice_index ns i)
size_here t [] ns zero l rest h e = absurd (cc)
size_here t [] ns (suc i) l rest h e = absurd (cc)
size_here t (y ∷ ys) [] i l rest h e = absurd h
size_here t (y ∷ ys) (n ∷ ns) zero l rest h e = subst (λ l. IsSize t l n) (first_same y l ys rest e) h.0
size_here t (y ∷ ys) (n ∷ ns) (suc i) l rest h e = size_here t ys ns i l rest h.1 e

-- what is wanted of a statement without forms of several lengths does not matter
pub added_as : (c d : Coder) (section : ℕ) (b : Bool) (faults : List ℕ) (v : Expression → Value) (rvc : Bool) (m n : ℕ) (s : Statement) → (is_some (near_forms_of rvc s.kind) ≡ true → m ≡ n)
    → IsAdded c d section b faults v rvc m s → IsAdded c d section b faults v rvc n s
added_as c d section b faults v rvc m n s same a = record {
  sound = a.sound;
  coded = a.coded;
  is = a.is;
  asked = λ near. a.asked near ∙ same near;
  grows = a.grows;
  counts = a.counts;
  full = a.full;
}

fault_first : (ss : List Statement) (code line at : ℕ) → code_fault_from (tables ss) (located (ss ∷ [])) ≡ Some (record { code = code; line = line }) → at ≡ line → IsCodeFault ss (record { code = code; line = at })
fault_first ss code line at e f = inl (e ∙ ap (λ n. fault_at code n) (sym f))
  where
    fault_at : ℕ → ℕ → Option StatementFault
    fault_at code line = Some (record { code = code; line = line })

pub one_file : (ss : List Statement) → located (ss ∷ []) ≡ located_from 1 1 (at_start ss) ss
one_file ss = append-nil (located_from 1 1 (at_start ss) ss)

-- a statement with a fault is the first
pub code_wrong : (u : SourceUnit) (i wanted : ℕ) (x : Statement) (p : SectionOffset) (rvc b : Bool) (c d : Coder) (faults : List ℕ) (fault : SourceFault) → StandsAt u i x p → CodeTo (said u) i c
    → faults ≡ code_faults_at (tables (said u)) (located_at (said u) i x)
    → Adds c d p.section b faults (λ e. value_by_tables (tables (said u)) true (i + 1) (offset_of p) e) rvc wanted x (Err fault) → (lengths : List ℕ) → IsSourceCode (said u) lengths (Err fault)
code_wrong u i wanted x p rvc b c d faults OutOfMemory at h same wrong lengths = tt
code_wrong u i wanted x p rvc b c d faults (At code line) at h same wrong lengths =
    let ss = said u in
    let all = located_from 1 1 (at_start ss) ss in
    fault_first ss (source_fault_number code) x.line line
    (ap (λ l. code_fault_from (tables ss) l) (one_file ss)
    ∙ wrong_code (tables ss) all (located_at ss i x) (drop (i + 1) all) c (source_fault_number code)
    (subst (λ rest. IsCodeSoFar (tables ss) all rest c) at.next h)
    (ap lowest (sym same) ∙ wrong.0))
    wrong.1

pub code_whole : (ss : List Statement) (lengths : List ℕ) (i : ℕ) (c : Coder) (r : Result SectionCode SourceFault) → drop i (located_from 1 1 (at_start ss) ss) ≡ [] → CodeTo ss i c
    → AreLeast (tables ss) (located_from 1 1 (at_start ss) ss) lengths
    → ((t : Tables) (all : List Located) → IsCodeSoFar t all [] c → IsAllCode t all lengths r) → IsSourceCode ss lengths r
code_whole ss lengths i c r none h least finish =
    go r (subst (λ l. IsAllCode (tables ss) l lengths r) (sym (one_file ss)) (finish (tables ss) (located_from 1 1 (at_start ss) ss) (subst (λ l. IsCodeSoFar (tables ss) (located_from 1 1 (at_start ss) ss) l c) none h)))
  where
    go : (r : Result SectionCode SourceFault) → IsAllCode (tables ss) (located (ss ∷ [])) lengths r → IsSourceCode ss lengths r
    go (Ok found) h = h
    go (Err (At code line)) h = inr (
      h.faults,
      record {
        sizes = h.sizes;
        are_sizes = h.are_sizes;
        least = subst (λ l. AreLeast (tables ss) l h.sizes) (sym (one_file ss)) (subst (AreLeast (tables ss) (located_from 1 1 (at_start ss) ss)) (sym h.told) least);
        fault = h.fault;
      },
    )
    go (Err OutOfMemory) h = tt
