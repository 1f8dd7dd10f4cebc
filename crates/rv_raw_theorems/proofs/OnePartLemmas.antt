-- A statement of one part: its one line, and the bytes of that.

use Rattle.std.proofs.Common.{◌≡◌, ℕ, Bool, true, false, List, [], ◌∷◌, ◌++◌, map, Option, Some, None, option_map, refl, sym, ◌∙◌, ap, subst, arith, inl, inr}
use Rattle.std.specs.Prelude.{if◌then◌else◌}
use Rattle.std.proofs.lemmas.List.{append-nil}
use Rattle.rv_isa.specs.declared.instruction.Inst.{Inst}
use Rattle.rv_isa.specs.Kinds.{width_of}
use Rattle.rv_isa_laws.specs.Bytes.{little_endian}
use Rattle.rv_isa_laws.specs.Word.{form, word}
use Rattle.rv_parcel.specs.declared.form.Compressed.{Compressed}
use Rattle.rv_parcel.specs.Parcel.{parcel, IsShortOf}
use Rattle.rv_statement_laws.specs.declared.mnemonic.Mnemonic.{Mnemonic}
use Rattle.rv_statement_laws.specs.Statement.{StatementKind, Instruction, Operand}
use Rattle.rv_pseudo_laws.specs.Code.{Part, Closed, Open, Joined}
use Rattle.rv_pseudo_laws.specs.Filled.{filled_part, filled}
use Rattle.rv_source_laws.specs.Program.{Mapped, Program, has_values}
use Rattle.rv_source_laws.specs.Lines.{parts, form_at, Line, field_value}
use Rattle.rv_chain_laws.specs.Contents.{AreSized, HasSizes, IsEncoded, AreEncoded, IsWritten}
use Rattle.rv_raw_theorems.proofs.LengthsLemmas.{IsSingle}

-- the bytes of a part where nothing is compressed but what is named
abbrev pub part_size : Option Compressed → Part → ℕ
part_size None (Closed i) = 4
part_size (Some form) (Closed i) = 2
part_size named (Open k i) = width_of k
part_size named (Joined k i j) = 8

one_line : (named : Option Compressed) (part : Part) (lines : List Line) → IsSingle part → AreSized named false (part ∷ []) lines
    → (l : Line) × ((lines ≡ l ∷ []) × (l.bytes ≡ part_size named part))
one_line None (Closed i) (l ∷ []) single (size, none) = (l, (refl, size))
one_line (Some c) (Closed i) (l ∷ []) single (size, none) = (l, (refl, size))
one_line None (Closed i) (l ∷ m ∷ ls) single (size, none) = absurd none
one_line (Some c) (Closed i) (l ∷ m ∷ ls) single (size, none) = absurd none
one_line named (Open k i) (l ∷ []) single (size, none) = (l, (refl, size))
one_line named (Open k i) (l ∷ m ∷ ls) single (size, none) = absurd none
one_line named (Closed i) [] single none = absurd none
one_line named (Open k i) [] single none = absurd none
one_line named (Joined k i j) lines single sizes = absurd single

one_encoded : (named : Option Compressed) (l : Line) (bytes : List ℕ) → AreEncoded named (l ∷ []) bytes → IsEncoded named l bytes
one_encoded named l bytes (front, (rest, joined, one, none)) =
    subst (IsEncoded named l) (sym (joined ∙ ap (λ x. front ++ x) none ∙ append-nil front)) one

sized_as : (named other : Option Compressed) (rvc : Bool) (ps qs : List Part) (kind : StatementKind) (m : Mnemonic) (os : List Operand) (lines : List Line)
    → named ≡ other → rvc ≡ false → ps ≡ qs → kind ≡ Instruction m os → HasSizes named rvc ps kind lines → AreSized other false qs lines
sized_as named other rvc ps qs kind m os lines en er ep ek h =
    subst (λ k. HasSizes other false qs k lines) ek
    (subst (λ x. HasSizes other false x kind lines) ep
    (subst (λ b. HasSizes other b ps kind lines) er
    (subst (λ n. HasSizes n rvc ps kind lines) en h)))

expanded : (b : Bool) (found : Option (List Part)) (f : List Part → List Inst) (is : List Inst) (ps : List Part)
    → (if b then option_map f found else None) ≡ Some is → found ≡ Some ps → f ps ≡ is
expanded true found f is ps e at =
    let f_is : Some (f ps) ≡ Some is = subst (λ o. option_map f o ≡ Some is) at e in
    cc
expanded false found f is ps e at = absurd (cc)

-- the one line of a statement of one part
pub record Alone (named : Option Compressed) (p : Program) (s : Mapped) (part : Part) (bytes : List ℕ) : Type 0 where
  pub line : Line
  pub size : line.bytes ≡ part_size named part
  pub same : filled_part (field_value p s) s.row.address part ≡ line.instruction ∷ []
  pub encoded : IsEncoded named line bytes

pub alone_written : (p : Program) (s : Mapped) (bytes : List ℕ) (m : Mnemonic) (os : List Operand) (named : Option Compressed) (part : Part)
    → IsWritten p s bytes → s.located.kind ≡ Instruction m os → s.located.options.rvc ≡ false → form_at p s ≡ named → parts p s ≡ Some (part ∷ []) → IsSingle part
    → Alone named p s part bytes
alone_written p s bytes m os named part w kind rvc form_is parts_is single =
    let found : Some w.ps ≡ Some (part ∷ []) = sym w.are_parts ∙ parts_is in
    let ps_are : w.ps ≡ part ∷ [] = cc in
    let one = one_line named part w.lines single (sized_as (form_at p s) named s.located.options.rvc w.ps (part ∷ []) s.located.kind m os w.lines form_is rvc ps_are kind w.sizes) in
    let l = one.0 in
    let lines_are : w.lines ≡ l ∷ [] = one.1.0 in
    let whole : filled (field_value p s) s.row.address (part ∷ []) ≡ map (λ (k : Line). k.instruction) w.lines =
    expanded (has_values p s) (parts p s) (filled (field_value p s) s.row.address) (map (λ (k : Line). k.instruction) w.lines) (part ∷ []) w.are_lines.0 parts_is in
    record {
      line = l;
      size = one.1.1;
      same = sym (append-nil (filled_part (field_value p s) s.row.address part)) ∙ whole ∙ ap (map (λ (k : Line). k.instruction)) lines_are;
      encoded = one_encoded named l bytes (subst (λ n. AreEncoded n (l ∷ []) bytes) form_is (subst (λ ls. AreEncoded (form_at p s) ls bytes) lines_are w.encoded));
    }

-- its bytes: those of a word, of the form that is named, or of the one parcel for its instruction
pub word_bytes : (p : Program) (s : Mapped) (part : Part) (bytes : List ℕ) (i : Inst) → Alone None p s part bytes → part_size None part ≡ 4
    → filled_part (field_value p s) s.row.address part ≡ i ∷ [] → bytes ≡ little_endian 4 (word (form i))
word_bytes p s part bytes i h four is = go h.encoded
  where
    go : IsEncoded None h.line bytes → bytes ≡ little_endian 4 (word (form i))
    go (inl (size, written)) =
        let both : h.line.instruction ∷ [] ≡ i ∷ [] = sym h.same ∙ is in
        let here : h.line.instruction ≡ i = cc in
        written ∙ ap (λ k. little_endian 4 (word (form k))) here
    go (inr (two, short)) = let e : h.line.bytes ≡ 4 = h.size ∙ four in absurd (omega (arith, e, two))

pub named_bytes : (c : Compressed) (p : Program) (s : Mapped) (part : Part) (bytes : List ℕ) → Alone (Some c) p s part bytes → bytes ≡ little_endian 2 (parcel c)
named_bytes c p s part bytes h = h.encoded.3

pub short_bytes : (c : Compressed) (p : Program) (s : Mapped) (part : Part) (bytes : List ℕ) (i : Inst) → Alone None p s part bytes → part_size None part ≡ 2
    → filled_part (field_value p s) s.row.address part ≡ i ∷ [] → ((q : ℕ) → IsShortOf i q → q ≡ parcel c) → bytes ≡ little_endian 2 (parcel c)
short_bytes c p s part bytes i h two is once = go h.encoded
  where
    go : IsEncoded None h.line bytes → bytes ≡ little_endian 2 (parcel c)
    go (inl (four, written)) = let e : h.line.bytes ≡ 2 = h.size ∙ two in absurd (omega (arith, e, four))
    go (inr (size, (q, short, written))) =
        let both : h.line.instruction ∷ [] ≡ i ∷ [] = sym h.same ∙ is in
        let here : h.line.instruction ≡ i = cc in
        written ∙ ap (little_endian 2) (once q (subst (λ k. IsShortOf k q) here short))
