-- The code of a raw listing is not too long: each statement has eight bytes at most.

use Rattle.std.proofs.Common.{◌≡◌, ℕ, pos, ◌+◌, ◌*◌, ◌≤◌, ◌⊎◌, Bool, true, false, List, [], ◌∷◌, length, append-nil, Option, Some, None, refl, sym, ◌∙◌, ap, subst, arith, inl, inr}
use Rattle.std.specs.Prelude.{⊤, ◌==◌, nat_lt, if◌then◌else◌}
use Rattle.std.specs.List.{AllByRecursion}
use Rattle.std.proofs.lemmas.Bool.{le-ltb}
use Rattle.rv_isa.specs.declared.instruction.Format.{Format}
use Rattle.rv_isa.specs.declared.instruction.Format.TheVariants.{Branch, Jal}
use Rattle.rv_isa.specs.declared.operation.BranchOperation.{BranchOperation}
use Rattle.rv_isa.specs.declared.kind.Kind.TheVariants as kind
use Rattle.rv_isa.specs.Operations.{format_of, of_branch}
use Rattle.rv_expression_laws.specs.Codes.{limit}
use Rattle.rv_expression_laws.specs.Expression.{Primary}
use Rattle.rv_expression_laws.specs.Values.{Meaning, Value, value_of}
use Rattle.rv_statement_laws.specs.Statement.{StatementKind, Expression}
use Rattle.rv_statement_laws.specs.Limits.{most_statements}
use Rattle.rv_pseudo_laws.specs.Code.{Part, Closed, Open, Constants, b_type, jal, inverted, branch}
use Rattle.rv_unit_laws.specs.Bindings.{Bindings, bindings_of}
use Rattle.rv_unit_laws.specs.Tables.{Tables, Labelled, at_start, after, meaning, longest_section}
use Rattle.rv_unit_laws.specs.Faults.{StatementFault, at_line}
use Rattle.rv_source_laws.specs.Lines.{parts_by_size}
use Rattle.rv_source_laws.specs.Located.{Located, located_from, located}
use Rattle.rv_source_laws.specs.Program.{place_of}
use Rattle.rv_source_laws.proofs.LocatedLemmas.{count_from}
use Rattle.rv_listing_laws.specs.declared.code.Code.{Code}
use Rattle.rv_listing_laws.specs.declared.code.Code.TheVariants.{Word, Parcel}
use Rattle.rv_listing_laws.specs.Raw.{IsSourced}
use Rattle.rv_raw_theorems.specs.Statements.{word_statement, parcel_statement, code_statement}
use Rattle.rv_assemble_laws.specs.Coded.{constants}
use Rattle.rv_assemble_laws.specs.Refusals.{HasCodeSize, HasSizeAt, AreCodeSizes, grown, size_fault_from, IsTooLong}
use Rattle.rv_raw_theorems.specs.Listed.{listed, IsShortListing}
use Rattle.rv_raw_theorems.proofs.OperandRangesLemmas.{ClosesUnled, closed_word, is_aimed, closed_parcel, open_parcel}
use Rattle.rv_raw_theorems.proofs.FaultsLemmas.{few}
use Rattle.rv_raw_theorems.proofs.LengthsLemmas.{IsSingle, IsCodeOf, of_code, short_size}
use Rattle.rv_raw_theorems.proofs.ExpressionValuesLemmas.{known}
use Rattle.rv_raw_theorems.proofs.StatementsLemmas.{IsInstruction, code_instruction, raw_options, table, entry_label, table_is, IsHead, IsOfCode, IsPlain, ArePlain, all_plain}

-- ---- two parts at most

abbrev AreFew : List Part → Type 0
AreFew ps = AllByRecursion IsSingle ps × (length ps ≤ 2)

abbrev AreFewIn : Option (List Part) → Type 0
AreFewIn None = ⊤
AreFewIn (Some ps) = AreFew ps

few_branch : (bytes : ℕ) (operation : BranchOperation) (rs1 rs2 : ℕ) → AreFew (branch bytes operation rs1 rs2)
few_branch bytes operation rs1 rs2 = by (bytes == 2) (bytes == 8)
  where
    by : (two eight : Bool)
        → AreFew (if two then Open kind.RvcBranch (of_branch operation (b_type rs1 rs2 (pos 0))) ∷ []
        else if eight then Closed (of_branch (inverted operation) (b_type rs1 rs2 (pos 8))) ∷ Open kind.Jal (jal 0) ∷ []
        else Open kind.Branch (of_branch operation (b_type rs1 rs2 (pos 0))) ∷ [])
    by true eight = ((tt, tt), omega arith)
    by false true = ((tt, (tt, tt)), omega arith)
    by false false = ((tt, tt), omega arith)

one_few : (o : Option (List Part)) (p : Part) → IsSingle p → o ≡ Some (p ∷ []) → AreFewIn o
one_few o p h e = subst AreFewIn (sym e) ((h, tt), omega arith)

of_some : (o : Option (List Part)) (ps : List Part) → AreFewIn o → o ≡ Some ps → AreFew ps
of_some o ps h e = subst AreFewIn e h

module _ (m : Primary → Meaning) where
  abbrev c : Constants
  c = constants (value_of m)

  word_few : (f : Format) → ClosesUnled (constants (value_of m)) f → (bytes : ℕ) → AreFewIn (parts_by_size (constants (value_of m)) false bytes (word_statement f))
  word_few (Branch operation x) closed bytes = few_branch bytes operation x.rs1 x.rs2
  word_few (Jal x) closed bytes = ((tt, tt), omega arith)
  word_few f closed bytes = let (i, e) = closed refl bytes in one_few (parts_by_size (constants (value_of m)) false bytes (word_statement f)) (Closed i) tt e

  code_few : (code : Code) → IsSourced code → (bytes : ℕ) → AreFewIn (parts_by_size (constants (value_of m)) false bytes (code_statement code))
  code_few (Word i) s bytes = word_few (format_of i) (closed_word (constants (value_of m)) (known m) i s) bytes
  code_few (Parcel f) s bytes = by (is_aimed f) refl
    where
      by : (b : Bool) → is_aimed f ≡ b → AreFewIn (parts_by_size (constants (value_of m)) false bytes (parcel_statement f))
      by true e =
          let p = open_parcel (constants (value_of m)) (known m) f s e bytes in
          one_few (parts_by_size (constants (value_of m)) false bytes (parcel_statement f)) (Open p.kind p.instruction) tt p.parts
      by false e = one_few (parts_by_size (constants (value_of m)) false bytes (parcel_statement f)) (Closed _) tt (closed_parcel (constants (value_of m)) (known m) f s e bytes)

  -- so the code of one has eight bytes at most
  pub code_short : (code : Code) → IsSourced code → (bytes : ℕ) (coded : List (List ℕ)) → IsCodeOf (constants (value_of m)) (code_statement code) false bytes coded → bytes ≤ 8
  code_short code said bytes coded h =
      short_size (constants (value_of m)) (code_statement code) bytes coded 2
      (λ ps e. of_some (parts_by_size (constants (value_of m)) false bytes (code_statement code)) ps (code_few code said bytes) e) h

-- ---- all statements

module _ (labels : List Labelled) (b : Bindings) where
  abbrev t : Tables
  t = table labels raw_options b

  of_kind : (v : Expression → Value) (executable rvc : Bool) (kind : StatementKind) (bytes : ℕ) → IsInstruction kind → HasCodeSize executable v rvc kind bytes → (coded : List (List ℕ)) × IsCodeOf (constants v) kind rvc bytes coded
  of_kind v executable rvc kind bytes i h =
      let (coded, (n, is)) = subst (λ k. HasCodeSize executable v rvc k bytes) i.is h in
      (coded, subst (λ k. IsCodeOf (constants v) k rvc bytes coded) (sym i.is) (of_code v rvc i.mnemonic i.operands bytes coded n is))

  none_of : (executable : Bool) → ◌≡◌ {A = ℕ} (if executable then 0 else 0) 0
  none_of true = refl
  none_of false = refl

  head_size : (v : Expression → Value) (executable rvc : Bool) (kind : StatementKind) (bytes : ℕ) → IsHead kind → HasCodeSize executable v rvc kind bytes → bytes ≡ 0
  head_size v executable rvc kind bytes (inl e) h = subst (λ k. HasCodeSize executable v rvc k bytes) e h
  head_size v executable rvc kind bytes (inr (inl (choice, e))) h = let f = subst (λ k. HasCodeSize executable v rvc k bytes) e h in f ∙ none_of executable
  head_size v executable rvc kind bytes (inr (inr (binding, (names, e)))) h = let f = subst (λ k. HasCodeSize executable v rvc k bytes) e h in f ∙ none_of executable

  at_most : (s : Located) → IsPlain s → (bytes : ℕ) → HasSizeAt t s bytes → bytes ≤ 8
  at_most s h bytes size = by h.says
    where
      m : Primary → Meaning
      m q = meaning t true s.ordinal (place_of s) q

      by : IsOfCode s ⊎ IsHead s.kind → bytes ≤ 8
      by (inl c) =
          let (coded, is) = of_kind (value_of m) s.home.executable s.options.rvc s.kind bytes (record { mnemonic = (code_instruction c.code).mnemonic; operands = (code_instruction c.code).operands; is = c.kind ∙ (code_instruction c.code).is }) size in
          code_short m c.code c.sourced bytes coded
          (subst (λ k. IsCodeOf (constants (value_of m)) k false bytes coded) c.kind (subst (λ r. IsCodeOf (constants (value_of m)) s.kind r bytes coded) c.rvc is))
      by (inr head) = let e = head_size (value_of m) s.home.executable s.options.rvc s.kind bytes head size in omega (arith, e)

  no_limit : (n line : ℕ) (rest : Option StatementFault) → n ≤ longest_section → at_line line (if nat_lt longest_section n then Some limit else None) rest ≡ rest
  no_limit n line rest le = ap (λ b. at_line line (if b then Some limit else None) rest) (le-ltb longest_section n le)

  grown_little : (before : ℕ → ℕ) (section bytes : ℕ) → bytes ≤ 8 → grown before section bytes 0 ≤ before 0 + 8
  grown_little before section bytes le = by (0 == section)
    where
      by : (c : Bool) → (if c then before 0 + bytes else before 0) ≤ before 0 + 8
      by true = omega (arith, le)
      by false = omega arith

  pub no_size_fault : (ls : List Located) (sizes : List ℕ) (before : ℕ → ℕ) → ArePlain ls → AreCodeSizes t ls sizes → before 0 + 8 * length ls ≤ longest_section → size_fault_from before ls sizes ≡ None
  no_size_fault [] [] before h k le = refl
  no_size_fault [] (bytes ∷ sizes) before h k le = refl
  no_size_fault (s ∷ ls) [] before h k le = refl
  no_size_fault (s ∷ ls) (bytes ∷ sizes) before (one, h) (k, ks) le =
      let small = at_most s one bytes k in
      let here : before s.section + bytes ≤ longest_section = subst (λ n. before n + bytes ≤ longest_section) (sym one.section) (omega (arith, small, le)) in
      let grew = grown_little before s.section bytes small in
      no_limit (before s.section + bytes) s.line (size_fault_from (grown before s.section bytes) ls sizes) here
      ∙ no_size_fault ls sizes (grown before s.section bytes) h ks (omega (arith, grew, le))

pub not_too_long : (before after : List Code) → IsShortListing before after → (f : StatementFault) → IsTooLong (listed before after) f → ⊥
not_too_long before after h f long =
    let ss = listed before after in
    let ls = located_from 1 1 (at_start ss) ss in
    let (n, is) = table_is before after in
    let whole : located (ss ∷ []) ≡ ls = append-nil ls in
    let sizes : AreCodeSizes (table (entry_label n ∷ []) raw_options (bindings_of ss)) ls long.sizes = subst (λ l. AreCodeSizes (table (entry_label n ∷ []) raw_options (bindings_of ss)) l long.sizes) whole (subst (λ t. AreCodeSizes t (located (ss ∷ [])) long.sizes) is long.are_sizes) in
    let many = count_from 1 (at_start ss) ss in
    let less : length ss ≤ most_statements = few before after h in
    let none = no_size_fault (entry_label n ∷ []) (bindings_of ss) ls long.sizes (λ j. 0) (all_plain before after h.sourced) sizes (omega (arith, many, less)) in
    absurd (let clash : Some f ≡ None = sym long.fault ∙ ap (λ l. size_fault_from (λ j. 0) l long.sizes) whole ∙ none in cc)
