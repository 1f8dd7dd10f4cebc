-- The statements of a raw listing as branch sizes see them: each has its smallest size.

use Rattle.std.proofs.Common.{◌≡◌, ℕ, suc, ℤ, pos, ◌⊎◌, Bool, true, false, List, [], ◌∷◌, Option, Some, None, refl, sym, ◌∙◌, ap, subst, arith, inl, inr}
use Rattle.std.specs.Prelude.{⊤, ◌&&◌, ◌==◌, if◌then◌else◌}
use Rattle.std.specs.Int.{w64, int_wrap}
use Rattle.std.specs.List.{AllByRecursion, find}
use Rattle.std.proofs.lemmas.Bool.{eq-eqb}
use Rattle.rv_list_laws.proofs.EachLemmas.{each_map}
use Rattle.rv_isa.specs.declared.instruction.Format.{Format}
use Rattle.rv_isa.specs.declared.instruction.Format.TheVariants.{Branch, Jal, Fence}
use Rattle.rv_isa.specs.declared.instruction.BType.{BType}
use Rattle.rv_isa.specs.declared.instruction.JType.{JType}
use Rattle.rv_isa.specs.declared.operation.BranchOperation.{BranchOperation}
use Rattle.rv_isa.specs.declared.kind.Kind.TheVariants as kinds
use Rattle.rv_isa.specs.Operations.{format_of}
use Rattle.rv_isa.specs.Ranges.{IsValidFormat}
use Rattle.rv_isa_laws.specs.Arithmetic.{wrapped}
use Rattle.rv_expression_laws.specs.Expression.{Primary, Here}
use Rattle.rv_expression_laws.specs.Values.{Meaning, Open as Open_place, value_of}
use Rattle.rv_size_laws.specs.declared.item.Forms.TheVariants.{Branch as FullBranch}
use Rattle.rv_size_laws.specs.declared.item.Item.{Item}
use Rattle.rv_size_laws.specs.Branches.{smallest}
use Rattle.rv_statement_laws.specs.declared.mnemonic.Mnemonic.TheVariants as words
use Rattle.rv_statement_laws.specs.Statement.{StatementKind, Instruction, Statement, Register, Target, Accesses}
use Rattle.rv_pseudo_laws.specs.Code.{Open, Constants, jal}
use Rattle.rv_unit_laws.specs.Bindings.{Bindings}
use Rattle.rv_unit_laws.specs.Tables.{Tables, Labelled, after, meaning, definition_at}
use Rattle.rv_unit_laws.proofs.OffsetsLemmas.{immediate}
use Rattle.rv_source_laws.specs.Located.{Located, located_from}
use Rattle.rv_source_laws.specs.Program.{place_of}
use Rattle.rv_source_laws.specs.Sizes.{Near, near_forms, jump_forms, near_at, near_value, settled, branch_item, item_by, item_by_kind}
use Rattle.rv_listing_laws.specs.declared.code.Code.{Code}
use Rattle.rv_listing_laws.specs.declared.code.Code.TheVariants.{Word, Parcel}
use Rattle.rv_listing_laws.specs.Instruction.{is_tso}
use Rattle.rv_listing_laws.specs.Raw.{IsSourced}
use Rattle.rv_raw_theorems.specs.Statements.{IsSmall, from_dot, access_set, word_statement, parcel_statement, code_statement}
use Rattle.rv_assemble_laws.specs.Coded.{constants}
use Rattle.rv_raw_theorems.specs.Meaning.{LeadsFromItself}
use Rattle.rv_raw_theorems.proofs.PrintedValuesLemmas.{distance_value, addend_is}
use Rattle.rv_raw_theorems.proofs.ExpressionValuesLemmas.{known}
use Rattle.rv_raw_theorems.proofs.OperandRangesLemmas.{offset_small, is_led, ClosesUnled, closed_word, is_aimed, named_parcel, closed_parcel, open_parcel}
use Rattle.rv_raw_theorems.proofs.LengthsLemmas.{kind_size, near_of, word_kind, IsCodeOf, closed_size, named_size, open_size}
use Rattle.rv_raw_theorems.proofs.StatementsLemmas.{IsInstruction, word_instruction, code_instruction, raw_options, table, IsHead, IsOfCode, IsPlain, ArePlain, here_is}

-- ---- ordinals

-- the statement of an ordinal is found, and is one of the listing
abbrev pub IsFound : List Located → Located → Type 0
IsFound all s = (l : Located) × ((find (λ (q : Located). q.ordinal == s.ordinal) all ≡ Some l) × IsPlain l)

pub all_found : (all : List Located) → ArePlain all → AllByRecursion (IsFound all) all
all_found [] h = tt
all_found (y ∷ ys) (one, h) = (
  (y, (ap (λ b. if b then Some y else find (λ (q : Located). q.ordinal == y.ordinal) ys) (eq-eqb y.ordinal y.ordinal refl), one)),
  each_map (IsFound ys) (IsFound (y ∷ ys)) ys further (all_found ys h),
)
  where
    further : (s : Located) → IsFound ys s → IsFound (y ∷ ys) s
    further s (l, (found, plain)) = by (y.ordinal == s.ordinal) refl
      where
        by : (b : Bool) → (y.ordinal == s.ordinal) ≡ b → IsFound (y ∷ ys) s
        by true e = (y, (ap (λ b. if b then Some y else find (λ (q : Located). q.ordinal == s.ordinal) ys) e, one))
        by false e = (l, (ap (λ b. if b then Some y else find (λ (q : Located). q.ordinal == s.ordinal) ys) e ∙ found, plain))

abbrev pub AreNumberedFrom : ℕ → List Located → Type 0
AreNumberedFrom k [] = ⊤
AreNumberedFrom k (l ∷ ls) = (l.ordinal ≡ suc k) × AreNumberedFrom (suc k) ls

pub numbered_from : (k : ℕ) (t : Tables) (ss : List Statement) → AreNumberedFrom k (located_from 1 (suc k) t ss)
numbered_from k t [] = tt
numbered_from k t (s ∷ ss) = (refl, numbered_from (suc k) (after t (suc k) s.kind) ss)

-- ---- words that lead nowhere have one form

near_word : (f : Format) → is_led f ≡ false → near_of (word_statement f) ≡ None
near_word (Branch op x) e = absurd (cc)
near_word (Jal x) e = absurd (cc)
near_word (Fence x) e = by (is_tso x)
  where
    by : (b : Bool) → near_of (if b then Instruction words.FenceTso [] else Instruction words.Fence (Accesses (access_set x.pred) ∷ Accesses (access_set x.succ) ∷ [])) ≡ None
    by true = refl
    by false = refl
near_word _ e = refl

module _ (labels : List Labelled) (b : Bindings) (all : List Located) where
  abbrev t : Tables
  t = table labels raw_options b

  settled_item : (s : Located) (bytes : ℕ) (kind : StatementKind) → IsInstruction kind → s.options.rvc ≡ false → near_of kind ≡ None → item_by_kind t all s bytes kind ≡ settled s bytes
  settled_item s bytes kind i rvc e =
      ap (item_by_kind t all s bytes) i.is
      ∙ ap (λ r. item_by t all s bytes i.operands (near_forms r i.mnemonic i.operands)) rvc
      ∙ ap (item_by t all s bytes i.operands) (sym (ap near_of i.is) ∙ e)

  head_item : (s : Located) (bytes : ℕ) (kind : StatementKind) → IsHead kind → item_by_kind t all s bytes kind ≡ settled s bytes
  head_item s bytes kind (inl e) = ap (item_by_kind t all s bytes) e
  head_item s bytes kind (inr (inl (choice, e))) = ap (item_by_kind t all s bytes) e
  head_item s bytes kind (inr (inr (binding, (names, e)))) = ap (item_by_kind t all s bytes) e

  -- a target surely is the statement itself
  module _ (s : Located) (plain : IsPlain s) (found : IsFound all s) where
    abbrev m : Primary → Meaning
    m q = meaning (table labels raw_options b) true s.ordinal (place_of s) q

    here : meaning (table labels raw_options b) true s.ordinal (place_of s) Here ≡ Open_place
    here = here_is labels b s plain.section

    abbrev own : ℤ → Near
    own z = record { ordinal = s.ordinal; addend = z }

    near_here : (plus : ℕ) → near_at all s.section (Some (definition_at s.ordinal)) plus ≡ Some (record { ordinal = s.ordinal; addend = int_wrap w64 (pos plus) })
    near_here plus =
        let (l, (e, other)) = found in
        let near : Near = record { ordinal = s.ordinal; addend = int_wrap w64 (pos plus) } in
        ap (λ (f : Option Located). elim f [ None ↦ None | Some q ↦ if q.section == s.section then Some near else None ]) e
        ∙ ap (λ b. if b then Some near else None) (eq-eqb l.section s.section (other.section ∙ sym plain.section))

    near_is : (z : ℤ) → IsSmall z → near_value t all s (value_of m (from_dot z)) ≡ Some (own z)
    near_is z small = ap (near_value t all s) (distance_value m 0 0 z small (inr here)) ∙ near_here (wrapped z) ∙ ap (λ a. Some (own a)) (addend_is z small)

    branch_is : (op : BranchOperation) (x : BType) (bytes : ℕ) → s.options.rvc ≡ false → IsSmall x.offset
        → item_by_kind t all s bytes (word_statement (Branch op x)) ≡ branch_item s FullBranch (Some (own x.offset))
    branch_is op x bytes rvc small =
        ap (λ r. item_by t all s bytes (Register x.rs1 ∷ Register x.rs2 ∷ Target (from_dot x.offset) ∷ []) (near_forms r (words.Branch op) (Register x.rs1 ∷ Register x.rs2 ∷ Target (from_dot x.offset) ∷ []))) rvc
        ∙ ap (branch_item s FullBranch) (near_is x.offset small)

    jal_is : (x : JType) (bytes : ℕ) → s.options.rvc ≡ false → (zero_rd : Bool) → (x.rd == 0) ≡ zero_rd
        → item_by_kind t all s bytes (word_statement (Jal x)) ≡ settled s (if zero_rd then 4 else bytes)
    jal_is x bytes rvc zero_rd e =
        ap (λ r. item_by t all s bytes (Register x.rd ∷ Target (from_dot x.offset) ∷ []) (if x.rd == 0 then Some (jump_forms r) else None)) rvc
        ∙ ap (λ z. item_by t all s bytes (Register x.rd ∷ Target (from_dot x.offset) ∷ []) (if z then Some (jump_forms false) else None)) e
        ∙ by zero_rd
      where
        by : (z : Bool) → item_by t all s bytes (Register x.rd ∷ Target (from_dot x.offset) ∷ []) (if z then Some (jump_forms false) else None) ≡ settled s (if z then 4 else bytes)
        by true = refl
        by false = refl

    word_fine : (i : ℕ) → s.ordinal ≡ suc i → (f : Format) → IsValidFormat f → (bytes : ℕ) → s.options.rvc ≡ false → LeadsFromItself i (item_by_kind t all s bytes (word_statement f))
    word_fine i at (Branch op x) (r, q, k) bytes rvc =
        subst (LeadsFromItself i) (sym (branch_is op x bytes rvc (offset_small x.offset k))) (omega (arith, at), immediate x.offset k)
    word_fine i at (Jal x) v bytes rvc = subst (LeadsFromItself i) (sym (jal_is x bytes rvc (x.rd == 0) refl)) tt
    word_fine i at f v bytes rvc = subst (LeadsFromItself i) (sym (settled_item s bytes (word_statement f) (word_instruction f) rvc (near_word f refl))) tt

    pub fine : (i : ℕ) → s.ordinal ≡ suc i → (bytes : ℕ) → LeadsFromItself i (item_by_kind t all s bytes s.kind)
    fine i at bytes = by plain.says
      where
        of_code : (c : Code) → IsSourced c → s.options.rvc ≡ false → LeadsFromItself i (item_by_kind t all s bytes (code_statement c))
        of_code (Word w) (v, said) rvc = word_fine i at (format_of w) v bytes rvc
        of_code (Parcel f) said rvc = subst (LeadsFromItself i) (sym (settled_item s bytes (parcel_statement f) (code_instruction (Parcel f)) rvc refl)) tt

        by : IsOfCode s ⊎ IsHead s.kind → LeadsFromItself i (item_by_kind t all s bytes s.kind)
        by (inl c) = subst (λ k. LeadsFromItself i (item_by_kind t all s bytes k)) (sym c.kind) (of_code c.code c.sourced c.rvc)
        by (inr head) = subst (LeadsFromItself i) (sym (head_item s bytes s.kind head)) tt

    -- ---- bytes

    abbrev c : Constants
    c = constants (value_of (λ q. meaning (table labels raw_options b) true s.ordinal (place_of s) q))

    word_exact : (f : Format) → IsValidFormat f → ClosesUnled c f → (bytes : ℕ) (coded : List (List ℕ)) → s.options.rvc ≡ false
        → bytes ≡ smallest (item_by_kind t all s bytes (word_statement f)).forms → IsCodeOf c (word_statement f) false bytes coded → bytes ≡ 4
    word_exact (Branch op x) (r, q, k) closed bytes coded rvc least h = least ∙ ap (λ (item : Item). smallest item.forms) (branch_is op x bytes rvc (offset_small x.offset k))
    word_exact (Jal x) v closed bytes coded rvc least h = by (x.rd == 0) refl
      where
        by : (z : Bool) → (x.rd == 0) ≡ z → bytes ≡ 4
        by true e = least ∙ ap (λ (item : Item). smallest item.forms) (jal_is x bytes rvc true e)
        by false e =
            open_size c (word_statement (Jal x)) bytes coded kinds.Jal (jal x.rd) (inr refl)
            (ap (λ z. Some (Open (if z && (bytes == 2) then kinds.RvcJump else kinds.Jal) (jal x.rd) ∷ [])) e) h
    word_exact f v closed bytes coded rvc least h = let (i, e) = closed refl bytes in closed_size c (word_statement f) bytes coded i (word_kind c f).unnamed e h

    pub exact : (code : Code) → IsSourced code → (bytes : ℕ) (coded : List (List ℕ)) → s.options.rvc ≡ false
        → bytes ≡ smallest (item_by_kind t all s bytes (code_statement code)).forms → IsCodeOf c (code_statement code) false bytes coded → bytes ≡ kind_size (code_statement code)
    exact (Word w) sourced bytes coded rvc least h =
        word_exact (format_of w) sourced.0 (closed_word c (known m) w sourced) bytes coded rvc least h ∙ sym (word_kind c (format_of w)).size
    exact (Parcel f) sourced bytes coded rvc least is = by (is_aimed f) refl
      where
        by : (z : Bool) → is_aimed f ≡ z → bytes ≡ 2
        by true e = let p = open_parcel c (known m) f sourced e bytes in open_size c (parcel_statement f) bytes coded p.kind p.instruction (inl p.width) p.parts is ∙ p.width
        by false e = named_size c (parcel_statement f) bytes coded f _ (named_parcel c (known m) f sourced e) (closed_parcel c (known m) f sourced e bytes) is
