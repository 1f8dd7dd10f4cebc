-- Sections of code end at even offsets.

use Rattle.std.proofs.Common.{◌≡◌, ℕ, zero, suc, ◌+◌, ◌%◌, ◌≤◌, Bool, true, false, List, [], ◌∷◌, length, refl, sym, ap, ◌∙◌, subst, arith, map, length-append, Option, Some, None, inl, inr}
use Rattle.std.specs.Prelude.{◌&&◌, flat_map, unwrap_or}
use Rattle.std.specs.List.{AllByRecursion}
use Rattle.rv_list_laws.proofs.EachLemmas.{each_append}
use Rattle.rv_isa.specs.declared.instruction.Inst.{Inst}
use Rattle.rv_isa.specs.Kinds.{width_of}
use Rattle.rv_parcel.specs.declared.form.Compressed.{Compressed}
use Rattle.rv_parcel.specs.Encoded.{IsLeast, IsLeastAs}
use Rattle.rv_expression_laws.specs.Values.{Value}
use Rattle.rv_statement_laws.specs.Statement.{StatementKind, Label, Numbered, Instruction, Directs, Expression}
use Rattle.rv_pseudo_laws.specs.Code.{Part as CodePart, Closed, Open as OpenPart, Joined, named_form}
use Rattle.rv_pseudo_laws.specs.Filled.{are_closed}
use Rattle.rv_unit_laws.specs.Contributions.{Contribution, Nothing, Bytes, Alignment, contribution}
use Rattle.rv_unit_laws.specs.Sections.{Section}
use Rattle.rv_unit_laws.specs.Tables.{Tables}
use Rattle.rv_assemble_laws.specs.CodeFields.{part_fields}
use Rattle.rv_assemble_laws.specs.Coded.{constants, IsCodedPart, AreCodedParts}
use Rattle.rv_assemble_laws.specs.Templates.{Open, padding_templates, contribution_templates}
use Rattle.rv_assemble_laws.specs.LaidStatements.{LaidStatement, LaidPart, expression_value, laid_part, part_bytes, parts_of, parts, coded_templates, templates, Tile, end_of, HasSize}
use Rattle.rv_assemble_laws.proofs.FilledLemmas.{filled}
use Rattle.rv_source_laws.proofs.HeldLemmas.{ContributionHeld, IsHeld}
use Rattle.rv_object_laws.proofs.NopsLemmas.{length_even}
use Rattle.rv_draft.proofs.SameLengthsLemmas.{pair_long}
use Rattle.rv_assemble.proofs.SettledLemmas.{IsIn}
use Rattle.rv_assemble.proofs.RoomLemmas.{IsRoom, HasRoom, directive_room}
use Rattle.rv_assemble.proofs.CodeFitsLemmas.{encoded_long}

least_even : (rvc : Bool) (i : Inst) (n : ℕ) → IsLeast rvc i n → n % 2 ≡ 0
least_even true i n (inl (e, h)) = ap (λ m. m % 2) e
least_even true i n (inr (e, h)) = ap (λ m. m % 2) e
least_even false i n e = ap (λ m. m % 2) e

least_as_even : (named : Option Compressed) (rvc : Bool) (i : Inst) (n : ℕ) → IsLeastAs named rvc i n → n % 2 ≡ 0
least_as_even (Some parcel) rvc i n e = ap (λ m. m % 2) e
least_as_even None rvc i n h = least_even rvc i n h

-- a part has an even count of bytes
abbrev pub IsEvenPart : LaidPart → Type 0
IsEvenPart p = length (part_bytes p) % 2 ≡ 0

part_even : (named : Option Compressed) (rvc : Bool) (p : CodePart) (bytes : List ℕ) → IsCodedPart named rvc p bytes → length bytes % 2 ≡ 0
part_even named rvc (Closed i) bytes h = least_as_even named rvc i (length bytes) h.1
part_even named rvc (OpenPart k i) bytes (h, written) = let both = encoded_long i (width_of k) bytes written in ap (λ n. n % 2) both.0 ∙ both.1
part_even named rvc (Joined k i j) bytes (h, o, (first, (second, a, b, e))) = ap (λ n. n % 2) (pair_long i j bytes first second a b e)

code_even : (named : Option Compressed) (rvc : Bool) (ordinal : ℕ) (fields : CodePart → List Open) (ps : List CodePart) (coded : List (List ℕ)) → AreCodedParts named rvc ps coded
    → AllByRecursion IsEvenPart (map (laid_part ordinal) (coded_templates fields ps coded))
code_even named rvc ordinal fields [] [] h = tt
code_even named rvc ordinal fields [] (bytes ∷ coded) h = absurd h
code_even named rvc ordinal fields (p ∷ ps) [] h = absurd h
code_even named rvc ordinal fields (p ∷ ps) (bytes ∷ coded) (h, hs) = (part_even named rvc p bytes h, code_even named rvc ordinal fields ps coded hs)

padding_even : (executable : Bool) (ordinal bytes : ℕ) → executable ≡ true → IsRoom bytes → AllByRecursion IsEvenPart (map (laid_part ordinal) (padding_templates executable ordinal bytes))
padding_even true ordinal zero e h = tt
padding_even true ordinal (suc n) e h = (ap (λ m. m % 2) (length_even (suc n) h.0) ∙ h.0, tt)
padding_even false ordinal bytes e h = absurd (cc)

contribution_even : (home : Section) (executable : Bool) (ordinal bytes : ℕ) (v : Expression → Value) (c : Contribution) → home.executable ≡ true → executable ≡ true → ContributionHeld home c → HasRoom c bytes
    → AllByRecursion IsEvenPart (map (laid_part ordinal) (contribution_templates executable ordinal v c bytes))
contribution_even home executable ordinal bytes v Nothing code here held room = tt
contribution_even home executable ordinal bytes v (Bytes contents) code here held room = absurd (let e = held.0 in cc)
contribution_even home executable ordinal bytes v (Alignment f number) code here held room = padding_even executable ordinal bytes here room

kind_even : (t : Tables) (home : Section) (s : LaidStatement) (multiple : ℕ) (kind : StatementKind) → home.executable ≡ true → s.located.home.executable ≡ true → IsHeld home kind → HasSize (expression_value t s.located) s multiple kind
    → AllByRecursion IsEvenPart (map (laid_part s.located.ordinal) (templates t s kind))
kind_even t home s multiple (Label name) code here held size = tt
kind_even t home s multiple (Numbered number) code here held size = tt
kind_even t home s multiple (Instruction mnemonic operands) code here held size =
    subst (λ o. AllByRecursion IsEvenPart (map (laid_part s.located.ordinal) (coded_templates (part_fields t (expression_value t s.located) s.located) (unwrap_or o []) s.coded))) (sym size.parts)
    (code_even (named_form (constants (expression_value t s.located)) mnemonic operands) (s.located.options.rvc && are_closed size.ps) s.located.ordinal (part_fields t (expression_value t s.located) s.located) size.ps s.coded size.coded_as)
kind_even t home s multiple (Directs d) code here held size =
    contribution_even home s.located.home.executable s.located.ordinal s.bytes (expression_value t s.located) (contribution d) code here held (directive_room (expression_value t s.located) s multiple d here size)

abbrev pub IsSized : Tables → ℕ → LaidStatement → Type 0
IsSized t multiple s = s.located.placed ≡ true → HasSize (expression_value t s.located) s multiple s.located.kind

laid_even : (t : Tables) (home : Section) (s : LaidStatement) (multiple : ℕ) → home.executable ≡ true → IsIn home s → IsSized t multiple s → AllByRecursion IsEvenPart (parts_of t s)
laid_even t home s multiple code h sized = go s.located.placed refl
  where
    go : (b : Bool) → s.located.placed ≡ b → AllByRecursion IsEvenPart (parts_of t s)
    go true e = kind_even t home s multiple s.located.kind code (ap (λ (x : Section). x.executable) h.same ∙ code) h.held (sized e)
    go false e = subst (λ ts. AllByRecursion IsEvenPart (map (laid_part s.located.ordinal) ts)) (sym (h.bare e t s)) tt

pub parts_even : (t : Tables) (home : Section) (multiple : ℕ) (laid : List LaidStatement) → home.executable ≡ true → AllByRecursion (IsIn home) laid → AllByRecursion (IsSized t multiple) laid
    → AllByRecursion IsEvenPart (parts t laid)
parts_even t home multiple [] code h sized = tt
parts_even t home multiple (s ∷ ss) code (h, hs) (z, zs) =
    each_append IsEvenPart (parts_of t s) (parts t ss) (laid_even t home s multiple code h z) (parts_even t home multiple ss code hs zs)

all_even : (ps : List LaidPart) → AllByRecursion IsEvenPart ps → length (flat_map part_bytes ps) % 2 ≡ 0
all_even [] h = refl
all_even (p ∷ ps) (h, hs) =
    let rest = all_even ps hs in
    let l = length-append (part_bytes p) (flat_map part_bytes ps) in
    omega (arith, h, rest, l)

pub end_even : (t : Tables) (home : Section) (multiple : ℕ) (laid : List LaidStatement) → home.executable ≡ true → AllByRecursion (IsIn home) laid → AllByRecursion (IsSized t multiple) laid → Tile t 0 laid
    → end_of 0 laid % 2 ≡ 0
end_even t home multiple laid code h sized tile =
    let whole = filled t 0 laid tile in
    let even = all_even (parts t laid) (parts_even t home multiple laid code h sized) in
    omega (arith, whole, even)

-- each statement of a section ends within it
pub ends_within : (t : Tables) (offset : ℕ) (laid : List LaidStatement) → Tile t offset laid → (stop : ℕ) → end_of offset laid ≡ stop → AllByRecursion (λ s. s.offset + s.bytes ≤ stop) laid
ends_within t offset [] tile stop e = tt
ends_within t offset (s ∷ ss) (at, bytes, tile) stop e =
    let rest = no_less (offset + s.bytes) ss in
    (omega (arith, rest, at, e), ends_within t (offset + s.bytes) ss tile stop e)
  where
    no_less : (n : ℕ) (laid : List LaidStatement) → n ≤ end_of n laid
    no_less n [] = omega arith
    no_less n (s ∷ ss) = let l = no_less (n + s.bytes) ss in omega (arith, l)
