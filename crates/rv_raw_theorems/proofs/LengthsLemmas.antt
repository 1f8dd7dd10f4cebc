-- How long the code of a raw listing is.

use Rattle.std.proofs.Common.{◌≡◌, ℕ, ◌+◌, ◌*◌, ◌≤◌, ◌⊎◌, Bool, true, false, List, [], ◌∷◌, ◌++◌, length, length-append, map, Option, Some, None, refl, sym, ◌∙◌, ap, subst, arith, inl, inr}
use Rattle.std.specs.Prelude.{⊤, ◌&&◌, if◌then◌else◌, flat_map}
use Rattle.std.specs.List.{AllByRecursion}
use Rattle.std.proofs.lemmas.Grind.{flat_map-append}
use Rattle.rv_isa.specs.declared.instruction.Inst.{Inst}
use Rattle.rv_isa.specs.declared.instruction.Format.{Format}
use Rattle.rv_isa.specs.declared.instruction.Format.TheVariants.{Fence}
use Rattle.rv_isa.specs.declared.kind.Kind.{Kind}
use Rattle.rv_isa.specs.Kinds.{width_of}
use Rattle.rv_isa.specs.Operations.{format_of}
use Rattle.rv_parcel.specs.declared.form.Compressed.{Compressed}
use Rattle.rv_size_laws.specs.declared.item.Forms.{Forms}
use Rattle.rv_statement_laws.specs.declared.mnemonic.Mnemonic.{Mnemonic}
use Rattle.rv_statement_laws.specs.declared.mnemonic.Mnemonic.TheVariants as words
use Rattle.rv_statement_laws.specs.Statement.{StatementKind, Instruction, Operand, Accesses, Expression}
use Rattle.rv_expression_laws.specs.Values.{Value}
use Rattle.rv_pseudo_laws.specs.Code.{Part, Closed, Open, Joined, Constants}
use Rattle.rv_pseudo_laws.specs.Filled.{are_closed}
use Rattle.rv_source_laws.specs.Lines.{parts_by_size, form_in}
use Rattle.rv_source_laws.specs.Sizes.{near_forms}
use Rattle.rv_listing_laws.specs.declared.code.Code.{Code}
use Rattle.rv_listing_laws.specs.declared.code.Code.TheVariants.{Word, Parcel}
use Rattle.rv_listing_laws.specs.Instruction.{is_tso}
use Rattle.rv_listing_laws.specs.Raw.{raw_bytes}
use Rattle.rv_raw_theorems.specs.Statements.{access_set, word_statement, code_statement}
use Rattle.rv_assemble_laws.specs.Coded.{constants, IsCodedPart, AreCodedParts, joined, IsCode}
use Rattle.rv_assemble_laws.specs.LaidStatements.{LaidStatement, HasSize}
use Rattle.rv_assemble_laws.proofs.LeastCodeLemmas.{some_parts}
use Rattle.rv_raw_theorems.proofs.StatementsLemmas.{IsInstruction}

-- ---- the bytes of a statement

abbrev pub mnemonic_size : Mnemonic → ℕ
mnemonic_size (words.Parcel operation) = 2
mnemonic_size mnemonic = 4

abbrev pub kind_size : StatementKind → ℕ
kind_size (Instruction mnemonic operands) = mnemonic_size mnemonic
kind_size kind = 0

-- the forms of a statement outside compressed code
abbrev pub near_of : StatementKind → Option Forms
near_of (Instruction mnemonic operands) = near_forms false mnemonic operands
near_of kind = None

-- what a word is without its operands
pub record IsWordKind (c : Constants) (f : Format) (kind : StatementKind) : Type 0 where
  pub size : kind_size kind ≡ 4
  pub unnamed : form_in c kind ≡ None

pub word_kind : (c : Constants) (f : Format) → IsWordKind c f (word_statement f)
word_kind c (Fence x) = by (is_tso x)
  where
    by : (b : Bool) → IsWordKind c (Fence x) (if b then Instruction words.FenceTso [] else Instruction words.Fence (Accesses (access_set x.pred) ∷ Accesses (access_set x.succ) ∷ []))
    by true = record { size = refl; unnamed = refl }
    by false = record { size = refl; unnamed = refl }
word_kind c _ = record { size = refl; unnamed = refl }

pub code_size : (c : Code) → kind_size (code_statement c) ≡ length (raw_bytes c)
code_size (Word i) = (word_kind (λ e. None) (format_of i)).size
code_size (Parcel f) = refl

-- ---- all of them

abbrev pub weight : List StatementKind → ℕ
weight [] = 0
weight (k ∷ ks) = kind_size k + weight ks

pub weight_join : (ks qs : List StatementKind) → weight (ks ++ qs) ≡ weight ks + weight qs
weight_join [] qs = omega arith
weight_join (k ∷ ks) qs = let e = weight_join ks qs in omega (arith, e)

codes_weight : (cs : List Code) → weight (map code_statement cs) ≡ length (flat_map raw_bytes cs)
codes_weight [] = refl
codes_weight (c ∷ cs) =
    let e = codes_weight cs in
    let f = code_size c in
    let g = length-append (raw_bytes c) (flat_map raw_bytes cs) in
    omega (arith, e, f, g)

pub both_weight : (before after : List Code) → weight (map code_statement before) + weight (map code_statement after) ≡ length (flat_map raw_bytes (before ++ after))
both_weight before after =
    let e = codes_weight before in
    let f = codes_weight after in
    let g = length-append (flat_map raw_bytes before) (flat_map raw_bytes after) in
    let whole : length (flat_map raw_bytes (before ++ after)) ≡ length (flat_map raw_bytes before ++ flat_map raw_bytes after) = ap length (flat_map-append raw_bytes before after) in
    omega (arith, e, f, g, whole)

-- ---- coded parts

abbrev pub IsSingle : Part → Type 0
IsSingle (Closed i) = ⊤
IsSingle (Open k i) = ⊤
IsSingle (Joined k i j) = ⊥

part_short : (named : Option Compressed) (r : Bool) (p : Part) (bytes : List ℕ) → IsSingle p → IsCodedPart named r p bytes → length bytes ≤ 4
part_short None r (Closed i) bytes h (valid, least, inl (four, e)) = omega (arith, four)
part_short None r (Closed i) bytes h (valid, least, inr (two, e)) = omega (arith, two)
part_short (Some f) r (Closed i) bytes h (valid, two, e) = omega (arith, two)
part_short named r (Open k i) bytes h (valid, inl (four, e)) = let f : length bytes ≡ 4 = ap length e in omega (arith, f)
part_short named r (Open k i) bytes h (valid, inr (two, (q, short, e))) = let f : length bytes ≡ 2 = ap length e in omega (arith, f)
part_short named r (Joined k i j) bytes h e = absurd h

parts_short : (named : Option Compressed) (r : Bool) (ps : List Part) (coded : List (List ℕ)) → AllByRecursion IsSingle ps → AreCodedParts named r ps coded → length (joined coded) ≤ 4 * length ps
parts_short named r [] [] h e = omega arith
parts_short named r [] (bytes ∷ coded) h e = absurd e
parts_short named r (p ∷ ps) [] h e = absurd e
parts_short named r (p ∷ ps) (bytes ∷ coded) (one, h) (e, es) =
    let a = part_short named r p bytes one e in
    let b = parts_short named r ps coded h es in
    let g = length-append bytes (joined coded) in
    omega (arith, a, b, g)

-- the code of a statement
pub record IsCodeOf (c : Constants) (kind : StatementKind) (rvc : Bool) (bytes : ℕ) (coded : List (List ℕ)) : Type 0 where
  pub ps : List Part
  pub parts : parts_by_size c rvc bytes kind ≡ Some ps
  pub coded_as : AreCodedParts (form_in c kind) (rvc && are_closed ps) ps coded
  pub size : bytes ≡ length (joined coded)

pub of_code : (v : Expression → Value) (rvc : Bool) (m : Mnemonic) (os : List Operand) (bytes : ℕ) (coded : List (List ℕ)) (n : ℕ) → IsCode v rvc m os bytes coded n → IsCodeOf (constants v) (Instruction m os) rvc bytes coded
of_code v rvc m os bytes coded n h = record { ps = h.ps; parts = h.parts; coded_as = h.coded_as; size = h.size }

pub of_laid_statement : (v : Expression → Value) (s : LaidStatement) (multiple : ℕ) (kind : StatementKind) → IsInstruction kind → HasSize v s multiple kind → IsCodeOf (constants v) kind s.located.options.rvc s.bytes s.coded
of_laid_statement v s multiple kind i h =
    subst (λ k. IsCodeOf (constants v) k s.located.options.rvc s.bytes s.coded) (sym i.is)
    (of_code v s.located.options.rvc i.mnemonic i.operands s.bytes s.coded s.instructions (subst (HasSize v s multiple) i.is h))

pub parts_are : (c : Constants) (kind : StatementKind) (rvc : Bool) (bytes : ℕ) (coded : List (List ℕ)) (ps : List Part) (h : IsCodeOf c kind rvc bytes coded) → parts_by_size c rvc bytes kind ≡ Some ps → h.ps ≡ ps
parts_are c kind rvc bytes coded ps h e = some_parts h.ps ps (sym h.parts ∙ e)

-- one part alone
closed_long : (coded : List (List ℕ)) (i : Inst) → AreCodedParts None false (Closed i ∷ []) coded → length (joined coded) ≡ 4
closed_long [] i h = absurd h
closed_long (bytes ∷ []) i ((valid, four, e), h) = let g = length-append bytes [] in omega (arith, four, g)
closed_long (bytes ∷ b ∷ coded) i (one, h) = absurd h

named_long : (coded : List (List ℕ)) (f : Compressed) (i : Inst) → AreCodedParts (Some f) false (Closed i ∷ []) coded → length (joined coded) ≡ 2
named_long [] f i h = absurd h
named_long (bytes ∷ []) f i ((valid, two, e), h) = let g = length-append bytes [] in omega (arith, two, g)
named_long (bytes ∷ b ∷ coded) f i (one, h) = absurd h

open_long : (named : Option Compressed) (r : Bool) (coded : List (List ℕ)) (k : Kind) (i : Inst) → (width_of k ≡ 2) ⊎ (width_of k ≡ 4) → AreCodedParts named r (Open k i ∷ []) coded → length (joined coded) ≡ width_of k
open_long named r [] k i w h = absurd h
open_long named r (bytes ∷ []) k i w ((valid, inl (four, e)), h) = let f : length (bytes ++ []) ≡ 4 = ap (λ l. length (l ++ [])) e in omega (arith, four, f)
open_long named r (bytes ∷ []) k i w ((valid, inr (two, (q, short, e))), h) = let f : length (bytes ++ []) ≡ 2 = ap (λ l. length (l ++ [])) e in omega (arith, two, f)
open_long named r (bytes ∷ b ∷ coded) k i w (one, h) = absurd h

pub closed_size : (c : Constants) (kind : StatementKind) (bytes : ℕ) (coded : List (List ℕ)) (i : Inst) → form_in c kind ≡ None → parts_by_size c false bytes kind ≡ Some (Closed i ∷ []) → IsCodeOf c kind false bytes coded → bytes ≡ 4
closed_size c kind bytes coded i unnamed e h =
    let same = parts_are c kind false bytes coded (Closed i ∷ []) h e in
    h.size ∙ closed_long coded i (subst (λ n. AreCodedParts n false (Closed i ∷ []) coded) unnamed (subst (λ ps. AreCodedParts (form_in c kind) false ps coded) same h.coded_as))

pub named_size : (c : Constants) (kind : StatementKind) (bytes : ℕ) (coded : List (List ℕ)) (f : Compressed) (i : Inst) → form_in c kind ≡ Some f → parts_by_size c false bytes kind ≡ Some (Closed i ∷ []) → IsCodeOf c kind false bytes coded → bytes ≡ 2
named_size c kind bytes coded f i named e h =
    let same = parts_are c kind false bytes coded (Closed i ∷ []) h e in
    h.size ∙ named_long coded f i (subst (λ n. AreCodedParts n false (Closed i ∷ []) coded) named (subst (λ ps. AreCodedParts (form_in c kind) false ps coded) same h.coded_as))

pub open_size : (c : Constants) (kind : StatementKind) (bytes : ℕ) (coded : List (List ℕ)) (k : Kind) (i : Inst) → (width_of k ≡ 2) ⊎ (width_of k ≡ 4) → parts_by_size c false bytes kind ≡ Some (Open k i ∷ []) → IsCodeOf c kind false bytes coded
    → bytes ≡ width_of k
open_size c kind bytes coded k i w e h =
    let same = parts_are c kind false bytes coded (Open k i ∷ []) h e in
    h.size ∙ open_long (form_in c kind) false coded k i w (subst (λ ps. AreCodedParts (form_in c kind) false ps coded) same h.coded_as)

-- a few parts, none of two words
pub short_size : (c : Constants) (kind : StatementKind) (bytes : ℕ) (coded : List (List ℕ)) (most : ℕ) → ((ps : List Part) → parts_by_size c false bytes kind ≡ Some ps → AllByRecursion IsSingle ps × (length ps ≤ most)) → IsCodeOf c kind false bytes coded
    → bytes ≤ 4 * most
short_size c kind bytes coded most few h =
    let (single, le) = few h.ps h.parts in
    let a = parts_short (form_in c kind) false h.ps coded single h.coded_as in
    let b = h.size in
    omega (arith, a, b, le)
