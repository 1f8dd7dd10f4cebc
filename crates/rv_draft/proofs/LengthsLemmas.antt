-- How long the code of a statement is: two codes of one statement have as many bytes.

use Rattle.std.proofs.Common.{◌≡◌, ℕ, ◌+◌, ◌≤◌, Bool, true, List, [], ◌∷◌, length, Option, Some, None, refl, sym, ap, ◌∙◌, arith}
use Rattle.std.specs.Prelude.{is_some}
use Rattle.rv_expression_laws.specs.Values.{Value}
use Rattle.rv_statement_laws.specs.Statement.{StatementKind, Label, Numbered, Instruction, Directs, Expression}
use Rattle.rv_size_laws.specs.declared.item.Forms.{Forms}
use Rattle.rv_source_laws.specs.Sizes.{near_forms}
use Rattle.rv_instruction.specs.declared.encoded.Coded.{Coded}
use Rattle.rv_instruction.specs.Code.{HasCode, near_forms_of}
use Rattle.rv_draft.specs.Contents.{bytes_coded, statement_padding, IsCoded}
use Rattle.rv_draft.proofs.SameLengthsLemmas.{code_long}
use Rattle.rv_draft.specs.Coded.{HasBytes}
use Rattle.rv_draft.specs.Measure.{HasLength}

-- ---- of one that was added

near_of : (o : Option Forms) (f : Forms) → o ≡ Some f → is_some o ≡ true
near_of o f e = ap is_some e

near_length : (v : Expression → Value) (rvc executable : Bool) (wanted asked : ℕ) (f : Forms) (kind : StatementKind) (found : List Coded) → near_forms_of rvc kind ≡ Some f
    → HasCode v rvc asked kind found → asked ≡ wanted → statement_padding executable v kind + length (bytes_coded found) ≡ wanted
near_length v rvc executable wanted asked f (Label name) found e h same = absurd (cc)
near_length v rvc executable wanted asked f (Numbered number) found e h same = absurd (cc)
near_length v rvc executable wanted asked f (Instruction mnemonic operands) found e h same =
    let long : length (bytes_coded found) ≡ asked = h.near (near_of (near_forms rvc mnemonic operands) f e) in
    let whole : 0 + length (bytes_coded found) ≡ wanted = omega (arith, long, same) in
    whole
near_length v rvc executable wanted asked f (Directs directive) found e h same = absurd (cc)

pub added_length : (v : Expression → Value) (rvc executable : Bool) (faults : List ℕ) (wanted : ℕ) (kind : StatementKind) (found : List Coded) → faults ≡ []
    → (is : IsCoded v rvc kind found) → (is_some (near_forms_of rvc kind) ≡ true → is.0 ≡ wanted) → HasLength v rvc faults (statement_padding executable v kind) kind wanted
    → statement_padding executable v kind + length (bytes_coded found) ≡ wanted
added_length v rvc executable faults wanted kind found sound is asked told = go (near_forms_of rvc kind) refl
  where
    go : (o : Option Forms) → near_forms_of rvc kind ≡ o → statement_padding executable v kind + length (bytes_coded found) ≡ wanted
    go None e = told sound e found is
    go (Some f) e = near_length v rvc executable wanted is.0 f kind found e is.1 (asked (near_of (near_forms_of rvc kind) f e))

-- ---- of one whose code is made again

none_fits : (found : List Coded) (bytes : ℕ) → found ≡ [] → length (bytes_coded found) ≤ bytes
none_fits [] bytes e = let low : 0 ≤ bytes = omega arith in low
none_fits (c ∷ cs) bytes e = absurd (cc)

pub made_again : (v : Expression → Value) (rvc : Bool) (asked bytes : ℕ) (kind : StatementKind) (found coded : List Coded) → HasCode v rvc asked kind found
    → (is_some (near_forms_of rvc kind) ≡ true → asked ≡ bytes) → IsCoded v rvc kind coded → HasBytes coded bytes kind
    → HasBytes found bytes kind × (length (bytes_coded found) ≤ bytes)
made_again v rvc asked bytes (Label name) found coded h same is long = (tt, none_fits found bytes h)
made_again v rvc asked bytes (Numbered number) found coded h same is long = (tt, none_fits found bytes h)
made_again v rvc asked bytes (Instruction mnemonic operands) found coded h same is long = go (near_forms rvc mnemonic operands) refl
  where
    go : (o : Option Forms) → near_forms rvc mnemonic operands ≡ o → (bytes ≡ length (bytes_coded found)) × (length (bytes_coded found) ≤ bytes)
    go None e =
        let one : bytes ≡ length (bytes_coded found) = long ∙ sym (code_long v rvc asked is.0 mnemonic operands found coded e h is.1) in
        let low : length (bytes_coded found) ≤ bytes = omega (arith, one) in
        (one, low)
    go (Some f) e =
        let near = near_of (near_forms rvc mnemonic operands) f e in
        let one : bytes ≡ length (bytes_coded found) = sym (h.near near ∙ same near) in
        let low : length (bytes_coded found) ≤ bytes = omega (arith, one) in
        (one, low)
made_again v rvc asked bytes (Directs directive) found coded h same is long = (tt, none_fits found bytes h)
