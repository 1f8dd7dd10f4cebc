-- Each statement of a source has code in the bytes of its item.

use Rattle.std.proofs.Common.{◌≡◌, ℕ, zero, suc, ◌+◌, Bool, true, List, [], ◌∷◌, length, drop, None, refl, sym, ap, ◌∙◌, subst, arith}
use Rattle.std.specs.Global.{Vec}
use Rattle.rv_list_laws.proofs.ElementsLemmas.{first_same}
use Rattle.rv_expression_laws.specs.Values.{Value}
use Rattle.rv_statement_laws.specs.Statement.{StatementKind, Label, Numbered, Instruction, Directs, Expression, Statement}
use Rattle.rv_expression_laws.specs.Codes.{lowest}
use Rattle.rv_unit_laws.specs.Tables.{Tables, SectionOffset as Standing, at_start, after, tables, value_by_tables, alignment_at}
use Rattle.rv_unit.specs.Sections.{offset_of}
use Rattle.rv_unit.specs.declared.unit.Unit.{Unit as SourceUnit}
use Rattle.rv_unit.specs.Unit.{said, IsFilled, IsScope}
use Rattle.rv_source_laws.specs.Located.{Located, located, located_now, located_from, is_placed}
use Rattle.rv_source_laws.proofs.HeldLemmas.{no_lowest, no_fault}
use Rattle.rv_assemble_laws.specs.Refusals.{code_faults_at, code_fault_from}
use Rattle.rv_assemble_laws.specs.LaidStatements.{expression_value}
use Rattle.rv_instruction.specs.declared.encoded.Coded.{Coded}
use Rattle.rv_instruction.specs.Code.{MayHave}
use Rattle.rv_draft.specs.declared.data.Spot.{Spot}
use Rattle.rv_draft.specs.declared.item.CodeSize.{CodeSize}
use Rattle.rv_unit.specs.declared.item.Item.{Item}
use Rattle.rv_draft.specs.Added.{IsWhole}
use Rattle.rv_draft.specs.Contents.{bytes_coded, statement_padding, padding_at, IsCoded}
use Rattle.rv_draft.specs.Code.{bytes_of_codes, code_size, sizes_of}
use Rattle.rv_draft.specs.Coded.{AreCoded, HasBytes}
use Rattle.rv_draft.specs.DataParts.{AreMade, IsMade}
use Rattle.rv_draft.specs.Lengths.{AreLengths}
use Rattle.rv_draft.specs.Sized.{AreSized, IsSized}
use Rattle.rv_draft.specs.Spots.{value_in, IsMadeAt}
use Rattle.rv_draft.proofs.StandingLemmas.{StandsAt, located_at}
use Rattle.rv_draft.proofs.ExtentsLemmas.{faults_in, faults_there}
use Rattle.rv_draft.proofs.WholeLemmas.{one_file}

-- an instruction has the bytes of its code, which it was asked for
kind_offered : (t : Tables) (k : ℕ) (v : Expression → Value) (b rvc : Bool) (x : Item) (begins : ℕ) (coded : List Coded) (n : ℕ) (kind : StatementKind)
    → (is_placed t k kind ≡ true → IsSized v b x begins (code_size (statement_padding b v kind) coded) kind) → statement_padding b v kind + length (bytes_coded coded) ≡ n → MayHave rvc kind n → MayHave rvc kind x.bytes
kind_offered t k v b rvc x begins coded n (Label name) sized told may = tt
kind_offered t k v b rvc x begins coded n (Numbered number) sized told may = tt
kind_offered t k v b rvc x begins coded n (Instruction mnemonic operands) sized told may =
    subst (MayHave rvc (Instruction mnemonic operands)) (sym ((sized refl).0 ∙ told)) may
kind_offered t k v b rvc x begins coded n (Directs directive) sized told may = tt

kind_long : (t : Tables) (k : ℕ) (v : Expression → Value) (b : Bool) (x : Item) (begins : ℕ) (coded : List Coded) (kind : StatementKind)
    → (is_placed t k kind ≡ true → IsSized v b x begins (code_size (statement_padding b v kind) coded) kind) → HasBytes coded x.bytes kind
kind_long t k v b x begins coded (Label name) sized = tt
kind_long t k v b x begins coded (Numbered number) sized = tt
kind_long t k v b x begins coded (Instruction mnemonic operands) sized =
    let is : x.bytes ≡ 0 + length (bytes_coded coded) = (sized refl).0 in
    let long : x.bytes ≡ length (bytes_coded coded) = omega (arith, is) in
    long
kind_long t k v b x begins coded (Directs directive) sized = tt

first_of : (m n : ℕ) (ms ns : List ℕ) → m ∷ ms ≡ n ∷ ns → m ≡ n
first_of m n ms ns e = cc

rest_of : (m n : ℕ) (ms ns : List ℕ) → m ∷ ms ≡ n ∷ ns → ms ≡ ns
rest_of m n ms ns e = cc

made_from : (all : Tables) (k : ℕ) (t : Tables) (ss : List Statement) (is : List Item) (codes : List (List Coded)) (lengths : List ℕ)
    → code_fault_from all (located_from 1 k t ss) ≡ None → AreCoded all (located_from 1 k t ss) codes → AreSized all k t ss is (sizes_of all (located_from 1 k t ss) codes)
    → bytes_of_codes all (located_from 1 k t ss) codes ≡ lengths → AreLengths all (located_from 1 k t ss) lengths → AreMade all (located_from 1 k t ss) is
made_from all k t [] is codes lengths sound coded sized told long = tt
made_from all k t (s ∷ ss) [] codes lengths sound coded sized told long = tt
made_from all k t (s ∷ ss) (x ∷ is) [] lengths sound coded sized told long = absurd coded
made_from all k t (s ∷ ss) (x ∷ is) (c ∷ codes) [] sound coded sized told long = absurd long
made_from all k t (s ∷ ss) (x ∷ is) (c ∷ codes) (n ∷ lengths) sound (coded, others) (sized, rest) told (long, longs) =
    let st = located_now 1 k t s in
    let left = located_from 1 (suc k) (after t k s.kind) ss in
    let parts = no_fault s.line (lowest (code_faults_at all st)) (code_fault_from all left) sound in
    let v : Expression → Value = λ e. expression_value all st e in
    let size : ℕ = padding_at all st + length (bytes_coded c) in
    let here : size ≡ n = first_of size n (bytes_of_codes all left codes) lengths told in (
      record {
        sound = no_lowest (code_faults_at all st) parts.0;
        offered = kind_offered t k v st.home.executable st.options.rvc x (alignment_at all x.section) c n s.kind sized here long.offered;
        coded = c;
        is = coded;
        long = kind_long t k v st.home.executable x (alignment_at all x.section) c s.kind sized;
      },
      made_from all (suc k) (after t k s.kind) ss is codes lengths parts.1 others rest (rest_of size n (bytes_of_codes all left codes) lengths told) longs,
    )

-- where the passes over a source have found its code and its items
pub made_all : (ss : List Statement) (lengths : List ℕ) (code : List (Vec ℕ)) (sizes : List CodeSize) (is : List Item) → IsWhole (tables ss) (located (ss ∷ [])) lengths code sizes
    → AreSized (tables ss) 1 (at_start ss) ss is sizes → AreLengths (tables ss) (located_from 1 1 (at_start ss) ss) lengths → AreMade (tables ss) (located_from 1 1 (at_start ss) ss) is
made_all ss lengths code sizes is whole sized long =
    let t = tables ss in
    let one = one_file ss in
    made_from t 1 (at_start ss) ss is whole.codes lengths (subst (λ ls. code_fault_from t ls ≡ None) one whole.faults) (subst (λ ls. AreCoded t ls whole.codes) one whole.coded)
    (subst (λ l. AreSized t 1 (at_start ss) ss is l) (whole.counts ∙ ap (λ ls. sizes_of t ls whole.codes) one) sized)
    (ap (λ ls. bytes_of_codes t ls whole.codes) (sym one) ∙ whole.told) long

pub made_left : (t : Tables) (ls : List Located) (is : List Item) (i : ℕ) (l : Located) (rest : List Located) (x : Item) (more : List Item) → AreMade t ls is
    → drop i ls ≡ l ∷ rest → drop i is ≡ x ∷ more → IsMade t l x.bytes
made_left t [] is zero l rest x more h e f = absurd (cc)
made_left t [] is (suc i) l rest x more h e f = absurd (cc)
made_left t (y ∷ ys) [] zero l rest x more h e f = absurd (cc)
made_left t (y ∷ ys) [] (suc i) l rest x more h e f = absurd (cc)
made_left t (y ∷ ys) (z ∷ zs) zero l rest x more h e f =
    subst (λ l. IsMade t l x.bytes) (first_same y l ys rest e) (subst (λ (x : Item). IsMade t y x.bytes) (first_same z x zs more f) h.0)
made_left t (y ∷ ys) (z ∷ zs) (suc i) l rest x more h e f = made_left t ys zs i l rest x more h.1 e f

-- where it stands
pub made_spot : (spot : Spot) (u : SourceUnit) (i : ℕ) (x : Statement) (rvc : Bool) (bytes : ℕ) → spot.scope.now.unit.now ≡ u → IsFilled u → IsScope spot.scope.now i → StandsAt u i x spot.place
    → rvc ≡ (located_at (said u) i x).options.rvc → IsMade (tables (said u)) (located_at (said u) i x) bytes → IsMadeAt spot x.kind rvc bytes
made_spot spot u i x rvc bytes same filled next at on made =
    let st = located_at (said u) i x in
    let kind = x.kind in
    let p = offset_of spot.place in
    let here = subst (λ (q : Standing). IsCoded (λ e. value_by_tables (tables (said u)) true (i + 1) q e) st.options.rvc kind made.coded) (sym at.place) made.is in
    let there = subst (λ w. IsCoded (λ e. value_by_tables (tables (said w)) true (i + 1) p e) st.options.rvc kind made.coded) (sym same) here in
    record {
      index = i;
      filled = subst IsFilled (sym same) filled;
      next = next;
      sound = ap (λ w. faults_in (tables (said w)) (i + 1) p x) same ∙ faults_there u i x spot.place at ∙ made.sound;
      offered = subst (λ b. MayHave b kind bytes) (sym on) made.offered;
      coded = made.coded;
      is = subst (λ b. IsCoded (λ e. value_in spot i e) b kind made.coded) (sym on) there;
      long = made.long;
    }
