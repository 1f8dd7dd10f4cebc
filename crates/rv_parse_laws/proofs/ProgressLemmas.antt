-- One part more at the end of those that were read.

use Rattle.std.proofs.Common.{◌≡◌, true, false, List, [], ◌∷◌, ◌++◌, append_assoc, Ok, refl, sym, ◌∙◌, ap, subst, length, length-append, ◌<◌, arith}
use Rattle.rv_expression_laws.specs.Cut.{Piece, Each}
use Rattle.rv_expression_laws.specs.Lexing.{Token, is_last}
use Rattle.rv_expression_laws.specs.Grammar.{Kind, Bad_byte, Bad_token, End}
use Rattle.rv_statement_laws.specs.Statement.{StatementKind, Statement}
use Rattle.rv_parse_laws.specs.Syntax.{SourcePart, Ends, Says, IsPart, StopsPart, is_end, is_source_end}
use Rattle.rv_parse_laws.specs.Opening.{is_opened}
use Rattle.rv_parse_laws.specs.Parsing.{checked_at}
use Rattle.rv_parse_laws.specs.Reading.{statements_of_parts, told}
use Rattle.rv_parse_laws.specs.Refusals.{SaysUpTo, OpensWell}
use Rattle.rv_parse_laws.proofs.PartsLemmas.{part_found, part_nonempty}
use Rattle.rv_parse_laws.proofs.OpeningsLemmas.{texts_push, open_push, end_opens, checked_ok}

each_push : (ps : List (Piece SourcePart Token)) (x : Piece SourcePart Token) (rest : List Token) → Each IsPart StopsPart ps (x.text ++ rest) → IsPart x.kind x.text → StopsPart x.kind rest
    → Each IsPart StopsPart (ps ++ x ∷ []) rest
each_push [] x rest each is stops = (is, stops, tt)
each_push (p ∷ ps) x rest (a, b, each) is stops = (a, subst (StopsPart p.kind) (sym (texts_push ps x rest)) b, each_push ps x rest each is stops)

no_more_said : (ss : List Statement) → ss ++ [] ≡ ss
no_more_said [] = refl
no_more_said (s ∷ ss) = ap (λ us. s ∷ us) (no_more_said ss)

said_push : (ps : List (Piece SourcePart Token)) (x : Piece SourcePart Token) → statements_of_parts (ps ++ x ∷ []) ≡ statements_of_parts ps ++ told x.kind x.text
said_push [] x = no_more_said (told x.kind x.text)
said_push (p ∷ ps) x = ap (λ us. told p.kind p.text ++ us) (said_push ps x) ∙ sym (append_assoc (told p.kind p.text) (statements_of_parts ps) (told x.kind x.text))

pub push : (ts text rest : List Token) (p : SourcePart) (ss : List Statement) → SaysUpTo ts (text ++ rest) ss → OpensWell ss (text ++ rest) → IsPart p text → StopsPart p rest
    → SaysUpTo ts rest (ss ++ told p text)
push ts text rest p ss (ps, cuts, opens, is_said) well is stops =
    let x : Piece SourcePart Token = record { kind = p; text = text } in (
      ps ++ x ∷ [],
      record { whole = cuts.whole ∙ sym (texts_push ps x rest); each = each_push ps x rest cuts.each is stops },
      open_push [] ps x rest opens (subst (λ xs. OpensWell xs (text ++ rest)) is_said well),
      ap (λ us. us ++ told p text) is_said ∙ sym (said_push ps x),
    )

-- an end of a statement
pub push_end : (ts : List Token) (t : Token) (before rest : List Token) (ss : List Statement) → SaysUpTo ts before ss → before ≡ t ∷ rest → is_end t.kind ≡ true → SaysUpTo ts rest ss
push_end ts t before rest ss so is ends =
    subst (SaysUpTo ts rest) (no_more_said ss) (push ts (t ∷ []) rest Ends ss (subst (λ us. SaysUpTo ts us ss) is so) (end_opens ss t rest ends) (t, refl, ends) tt)

-- no statement is said by no tokens
no_text : (s : StatementKind) → IsPart (Says s) [] → ⊥
no_text s is = let n = part_nonempty (Says s) [] is in let w : [] ≡ n.0 ∷ n.1 = n.2 in cc

-- a statement, with its line
pub push_statement : (ts : List Token) (t : Token) (before us rest : List Token) (s : StatementKind) (ss : List Statement) → SaysUpTo ts before ss → before ≡ t ∷ us
    → checked_at (is_opened ss) before ≡ Ok (Says s, rest) → SaysUpTo ts rest (ss ++ record { line = t.line; kind = s } ∷ [])
push_statement ts t before us rest s ss so is checked =
    let c = checked_ok ss before (Says s, rest) checked in
    let f = part_found before (Says s) rest c.0 in
    go f.0 f.1 f.2 f.3 c.1
  where
    go : (text : List Token) → before ≡ text ++ rest → IsPart (Says s) text → StopsPart (Says s) rest → OpensWell ss before → SaysUpTo ts rest (ss ++ record { line = t.line; kind = s } ∷ [])
    go [] whole spelled stops well = absurd (no_text s spelled)
    go (v ∷ vs) whole spelled stops well =
        let same : t ∷ us ≡ v ∷ (vs ++ rest) = sym is ∙ whole in
        let head : t ≡ v = cc in
        subst (λ (u : Token). SaysUpTo ts rest (ss ++ record { line = u.line; kind = s } ∷ [])) (sym head)
        (push ts (v ∷ vs) rest (Says s) ss (subst (λ xs. SaysUpTo ts xs ss) whole so) (subst (OpensWell ss) whole well) spelled stops)

-- a statement takes tokens
pub statement_shorter : (ss : List Statement) (ts rest : List Token) (s : StatementKind) → checked_at (is_opened ss) ts ≡ Ok (Says s, rest) → length rest < length ts
statement_shorter ss ts rest s checked =
    let f = part_found ts (Says s) rest (checked_ok ss ts (Says s, rest) checked).0 in go f.0 f.1 f.2
  where
    go : (text : List Token) → ts ≡ text ++ rest → IsPart (Says s) text → length rest < length ts
    go [] whole spelled = absurd (no_text s spelled)
    go (v ∷ vs) whole spelled = rw whole (omega (arith, length-append vs rest))

-- a statement's end that is not the source's is not the last token
pub end_no_last : (k : Kind) → is_source_end k ≡ false → is_end k ≡ true → is_last k ≡ false
end_no_last Bad_byte no_end ends = absurd (cc)
end_no_last Bad_token no_end ends = absurd (cc)
end_no_last End no_end ends = absurd (cc)
end_no_last _ no_end ends = refl

pub source_end_is_end : (k : Kind) → is_source_end k ≡ true → (is_end k ≡ true) × (is_last k ≡ true)
source_end_is_end End h = (refl, refl)
source_end_is_end _ h = absurd (cc)
