-- The statement of a word or a parcel is written by that word or parcel.

use Rattle.std.proofs.Common.{◌≡◌, ℕ, ℤ, Bool, true, false, List, [], ◌∷◌, Some, None, refl, sym, ◌∙◌, ap, arith}
use Rattle.std.specs.Prelude.{⊤, ◌&&◌, ◌==◌, if◌then◌else◌}
use Rattle.std.proofs.lemmas.Bool.{eqb-true}
use Rattle.rv_isa.specs.Kinds.{is_low_part}
use Rattle.rv_expression_laws.specs.Values.{add}
use Rattle.rv_isa.specs.declared.instruction.Inst.TheVariants as inst
use Rattle.rv_isa.specs.declared.instruction.Format.{Format}
use Rattle.rv_isa.specs.declared.instruction.Format.TheVariants.{Registers, Immediate, Shift, Upper, Load, Store, Branch, Jal, Jalr, LoadReserved, Atomic, Fence, Ecall, Ebreak}
use Rattle.rv_isa.specs.declared.kind.Kind.{Kind}
use Rattle.rv_isa.specs.declared.kind.Kind.TheVariants as kind
use Rattle.rv_isa.specs.Operations.{format_of}
use Rattle.rv_isa.specs.Ranges.{IsValidFormat}
use Rattle.rv_isa_laws.specs.Arithmetic.{wrapped}
use Rattle.rv_parcel.specs.declared.form.Compressed.{Compressed}
use Rattle.rv_parcel.specs.declared.form.Compressed.TheVariants as forms
use Rattle.rv_parcel.specs.Mnemonics.{operation_of}
use Rattle.rv_parcel.specs.Parcel.{IsLine, IsShortOf, parcel, expansion}
use Rattle.rv_statement_laws.specs.declared.mnemonic.Mnemonic.{Mnemonic}
use Rattle.rv_statement_laws.specs.declared.mnemonic.Mnemonic.TheVariants as words
use Rattle.rv_statement_laws.specs.Statement.{StatementKind, Instruction, Operand, Target, Accesses}
use Rattle.rv_parse_laws.specs.Words.{form_with}
use Rattle.rv_pseudo_laws.specs.Code.{Part, Open, Constants, b_type, jal, jump}
use Rattle.rv_pseudo_laws.specs.Filled.{filled_part}
use Rattle.rv_source_laws.specs.Program.{Mapped, Program, number as number_in}
use Rattle.rv_source_laws.specs.Lines.{constants, parts_by_size, parts, form_in, operand_of, operand_value, field_value, distance as distance_to}
use Rattle.rv_listing_laws.specs.Instruction.{is_tso}
use Rattle.rv_listing_laws.specs.declared.code.Code.{Code}
use Rattle.rv_listing_laws.specs.declared.code.Code.TheVariants.{Word, Parcel}
use Rattle.rv_listing_laws.specs.Raw.{IsSourced, raw_bytes}
use Rattle.rv_chain_laws.specs.Contents.{IsWritten}
use Rattle.rv_raw_theorems.specs.Statements.{IsSmall, access_set, code_statement, from_dot, constant_expression, operands_of, parcel_statement, word_statement}
use Rattle.rv_raw_theorems.specs.Meaning.{Leads, code_width, instruction_at, named_by, named_in_parcel, parcel_part, part_of, word_part}
use Rattle.rv_raw_theorems.proofs.MeaningLemmas.{filled_is, forms_are, parts_are}
use Rattle.rv_raw_theorems.proofs.ParcelsLemmas.{branch_small as near_small, jump_small as short_small}
use Rattle.rv_raw_theorems.proofs.DistancesLemmas.{distance_is}
use Rattle.rv_raw_theorems.proofs.OnePartLemmas.{part_size, Alone, alone_written, word_bytes, named_bytes, short_bytes}
use Rattle.rv_raw_theorems.proofs.LengthsLemmas.{IsSingle}
pub use Rattle.rv_raw_theorems.proofs.WordsLemmas.{branch_small}
use Rattle.rv_raw_theorems.proofs.WordsLemmas.{jump_small}

-- what the expressions of a statement are worth where it stands
pub record Told (p : Program) (s : Mapped) : Type 0 where
  pub constant : (z : ℤ) → IsSmall z → constants p s.located (constant_expression z) ≡ Some z
  pub target : (z : ℤ) → IsSmall z → number_in p s (from_dot z) ≡ add (add s.row.address 0) (wrapped z)

-- ---- how far it leads

either : (b : Bool) (a : ℕ) → (if b then a else a) ≡ a
either true a = refl
either false a = refl

-- the field of a statement with a target takes how far it leads
aims : (p : Program) (s : Mapped) → Told p s → (z : ℤ) → IsSmall z → operand_of s.located.kind ≡ Some (Target (from_dot z))
    → (k : Kind) → field_value p s k s.row.address ≡ z
aims p s told z small is k =
    ap (operand_value p s (operand_of s.located.kind)) (either (is_low_part k) s.row.address)
    ∙ ap (λ o. operand_value p s o s.row.address) is ∙ ap (distance_to s.row.address) (told.target z small) ∙ distance_is s.row.address z small

word_leads : (f : Format) → IsValidFormat f → (p : Program) (s : Mapped) → Told p s → s.located.kind ≡ word_statement f → Leads (field_value p s) s.row.address f
word_leads (Branch op x) valid p s told is = aims p s told x.offset (branch_small x.offset valid.2) (ap operand_of is)
word_leads (Jal x) valid p s told is = aims p s told x.offset (jump_small x.offset valid.1) (ap operand_of is)
word_leads _ valid p s told is = tt

parcel_leads : (c : Compressed) → IsLine c → (p : Program) (s : Mapped) → Told p s → s.located.kind ≡ parcel_statement c → Leads (field_value p s) s.row.address (format_of (expansion c))
parcel_leads (forms.J i) line p s told is = aims p s told i (short_small i line) (ap operand_of is)
parcel_leads (forms.Beqz rs i) line p s told is = aims p s told i (near_small i line.1) (ap operand_of is)
parcel_leads (forms.Bnez rs i) line p s told is = aims p s told i (near_small i line.1) (ap operand_of is)
parcel_leads _ line p s told is = tt

leads : (code : Code) → IsSourced code → (p : Program) (s : Mapped) → Told p s → s.located.kind ≡ code_statement code → Leads (field_value p s) s.row.address (format_of (instruction_at code))
leads (Word i) said p s told is = word_leads (format_of i) said.0 p s told is
leads (Parcel c) said p s told is = parcel_leads c said.0 p s told is

-- ---- its one part, whatever else its row has than its width

-- a branch has four bytes, and so has a jump that keeps no return address
abbrev pub IsFull : Format → ℕ → Type 0
IsFull (Branch op x) n = n ≡ 4
IsFull (Jal x) n = x.rd ≡ 0 → n ≡ 4
IsFull f n = ⊤

abbrev pub IsFullCode : Code → ℕ → Type 0
IsFullCode (Word i) n = IsFull (format_of i) n
IsFullCode (Parcel c) n = ⊤

jump_wide : (n rd : ℕ) → (rd ≡ 0 → n ≡ 4) → jump n rd ≡ jump 4 rd
jump_wide n rd full = go (rd == 0) (λ e. full (eqb-true rd 0 e))
  where
    go : (b : Bool) → (b ≡ true → n ≡ 4) → Open (if b && (n == 2) then kind.RvcJump else kind.Jal) (jal rd) ∷ [] ≡ Open (if b && (4 == 2) then kind.RvcJump else kind.Jal) (jal rd) ∷ []
    go true four = ap (λ k. Open (if k == 2 then kind.RvcJump else kind.Jal) (jal rd) ∷ []) (four refl)
    go false four = refl

module _ (v : Constants) (n : ℕ) where
  abbrev Widens : StatementKind → ℕ → Type 0
  Widens k width = parts_by_size v false n k ≡ parts_by_size v false width k

  fence_wide : (b : Bool) (before after : ℕ) → Widens (if b then Instruction words.FenceTso [] else Instruction words.Fence (Accesses (access_set before) ∷ Accesses (access_set after) ∷ [])) 4
  fence_wide true before after = refl
  fence_wide false before after = refl

  word_wide : (f : Format) → IsFull f n → Widens (word_statement f) 4
  word_wide (Branch op x) full = ap (λ k. parts_by_size v false k (word_statement (Branch op x))) full
  word_wide (Jal x) full = ap (λ (ps : List Part). Some ps) (jump_wide n x.rd full)
  word_wide (Fence x) full = fence_wide (is_tso x) x.pred x.succ
  word_wide _ full = refl

  parcel_wide : (c : Compressed) → Widens (parcel_statement c) 2
  parcel_wide (forms.J i) = refl
  parcel_wide _ = refl

  wide : (code : Code) → IsFullCode code n → Widens (code_statement code) (code_width code)
  wide (Word i) full = word_wide (format_of i) full
  wide (Parcel c) full = parcel_wide c

word_single : (f : Format) → IsSingle (word_part f)
word_single (Branch op x) = tt
word_single _ = tt

parcel_single : (c : Compressed) → IsSingle (parcel_part c)
parcel_single (forms.J i) = tt
parcel_single _ = tt

single : (code : Code) → IsSingle (part_of code)
single (Word i) = word_single (format_of i)
single (Parcel c) = parcel_single c

word_size : (f : Format) → part_size None (word_part f) ≡ 4
word_size (Branch op x) = refl
word_size _ = refl

-- ---- it is an instruction

abbrev pub IsInstructionKind : StatementKind → Type 0
IsInstructionKind k = (m : Mnemonic) × ((os : List Operand) × (k ≡ Instruction m os))

fence_kind : (b : Bool) (before after : ℕ) → IsInstructionKind (if b then Instruction words.FenceTso [] else Instruction words.Fence (Accesses (access_set before) ∷ Accesses (access_set after) ∷ []))
fence_kind true before after = (words.FenceTso, ([], refl))
fence_kind false before after = (words.Fence, (_, refl))

word_kind : (f : Format) → IsInstructionKind (word_statement f)
word_kind (Registers op x) = (words.Registers op, (_, refl))
word_kind (Immediate op x) = (words.Immediate op, (_, refl))
word_kind (Shift op x) = (words.Shift op, (_, refl))
word_kind (Upper op x) = (words.Upper op, (_, refl))
word_kind (Load op x) = (words.Load op, (_, refl))
word_kind (Store op x) = (words.Store op, (_, refl))
word_kind (Branch op x) = (words.Branch op, (_, refl))
word_kind (Jal x) = (words.Jal, (_, refl))
word_kind (Jalr x) = (words.Jalr, (_, refl))
word_kind (LoadReserved double x) = (words.LoadReserved (form_with double x.acquire x.release), (_, refl))
word_kind (Atomic op double x) = (words.Atomic op (form_with double x.acquire x.release), (_, refl))
word_kind (Fence x) = fence_kind (is_tso x) x.pred x.succ
word_kind Ecall = (words.Ecall, (_, refl))
word_kind Ebreak = (words.Ebreak, (_, refl))

pub code_kind : (code : Code) → IsInstructionKind (code_statement code)
code_kind (Word i) = word_kind (format_of i)
code_kind (Parcel c) = (words.Parcel (operation_of c), (operands_of c, refl))

-- ---- the one parcel for the instruction of a form with a target

of_jump : (f : Compressed) (k : ℤ) → expansion f ≡ inst.Jal (record { offset = k; rd = 0 }) → f ≡ forms.J k
of_jump f k e = grind arith

of_equal : (f : Compressed) (rs : ℕ) (k : ℤ) → expansion f ≡ inst.Beq (b_type rs 0 k) → f ≡ forms.Beqz rs k
of_equal f rs k e = grind arith

of_unequal : (f : Compressed) (rs : ℕ) (k : ℤ) → expansion f ≡ inst.Bne (b_type rs 0 k) → f ≡ forms.Bnez rs k
of_unequal f rs k e = grind arith

once : (c : Compressed) → ((f : Compressed) → expansion f ≡ expansion c → f ≡ c) → (q : ℕ) → IsShortOf (expansion c) q → q ≡ parcel c
once c only q f = sym f.spells.sum ∙ ap parcel (only f.form f.same)

-- ---- its bytes

module _ (p : Program) (s : Mapped) (bytes : List ℕ) (w : IsWritten p s bytes) (told : Told p s) (rvc : s.located.options.rvc ≡ false) where
  abbrev v : Constants
  v = constants p s.located

  alone : (code : Code) → IsSourced code → s.located.kind ≡ code_statement code → IsFullCode code s.row.bytes → Alone (named_by code) p s (part_of code) bytes
  alone code said is full =
      let it = code_kind code in
      let n = s.row.bytes in
      let found : parts p s ≡ Some (part_of code ∷ []) =
      ap (parts_by_size v s.located.options.rvc n) is ∙ ap (λ b. parts_by_size v b n (code_statement code)) rvc ∙ wide v n code full ∙ parts_are v told.constant code said in
      alone_written p s bytes it.0 it.1.0 (named_by code) (part_of code) w (is ∙ it.1.1) rvc (ap (form_in v) is ∙ forms_are v told.constant code said) found (single code)

  abbrev IsFilled : Code → Type 0
  IsFilled code = filled_part (field_value p s) s.row.address (part_of code) ≡ instruction_at code ∷ []

  by_form : (c : Compressed) → Alone (named_in_parcel c) p s (parcel_part c) bytes → IsFilled (Parcel c) → bytes ≡ raw_bytes (Parcel c)
  by_form (forms.J i) it filled = short_bytes (forms.J i) p s (parcel_part (forms.J i)) bytes (expansion (forms.J i)) it refl filled (once (forms.J i) (λ f e. of_jump f i e))
  by_form (forms.Beqz rs i) it filled = short_bytes (forms.Beqz rs i) p s (parcel_part (forms.Beqz rs i)) bytes (expansion (forms.Beqz rs i)) it refl filled (once (forms.Beqz rs i) (λ f e. of_equal f rs i e))
  by_form (forms.Bnez rs i) it filled = short_bytes (forms.Bnez rs i) p s (parcel_part (forms.Bnez rs i)) bytes (expansion (forms.Bnez rs i)) it refl filled (once (forms.Bnez rs i) (λ f e. of_unequal f rs i e))
  by_form c it filled = named_bytes c p s (parcel_part c) bytes it

  by_code : (code : Code) → Alone (named_by code) p s (part_of code) bytes → IsFilled code → bytes ≡ raw_bytes code
  by_code (Word i) it filled = word_bytes p s (part_of (Word i)) bytes i it (word_size (format_of i)) filled
  by_code (Parcel c) it filled = by_form c it filled

  pub code_written : (code : Code) → IsSourced code → s.located.kind ≡ code_statement code → IsFullCode code s.row.bytes → bytes ≡ raw_bytes code
  code_written code said is full =
      by_code code (alone code said is full) (filled_is (field_value p s) s.row.address code (leads code said p s told is))
