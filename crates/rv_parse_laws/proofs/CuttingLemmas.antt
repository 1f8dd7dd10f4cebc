-- Two cuts of the same tokens: one goes on where the other stops.

use Rattle.std.proofs.Common.{◌≡◌, ℕ, ◌<◌, true, false, List, [], ◌∷◌, ◌++◌, append_assoc, length, length-append, take, drop, Some, Err, refl, sym, ◌∙◌, ap, subst, arith, ◌⊎◌, inl, inr}
use Rattle.std.proofs.lemmas.Option.{some_pair_parts}
use Rattle.std.proofs.Math.Seq.{take-append_seam, drop-append_seam}
use Rattle.rv_expression_laws.specs.Cut.{Piece, texts, NothingReads}
use Rattle.rv_expression_laws.specs.Lexing.{Token}
use Rattle.rv_expression_laws.proofs.CutLemmas.{none_nothing, nothing_none}
use Rattle.rv_statement_laws.specs.Statement.{Statement}
use Rattle.rv_parse_laws.specs.Syntax.{SourcePart, Ends, Says, IsPart, StopsPart, is_end}
use Rattle.rv_parse_laws.specs.Parsing.{part_at}
use Rattle.rv_expression_laws.specs.SyntaxError.{SyntaxError}
use Rattle.rv_parse_laws.specs.Reading.{AreParts, told, statements_of_parts}
use Rattle.rv_parse_laws.proofs.FailingLemmas.{heads}
use Rattle.rv_parse_laws.proofs.WholeLemmas.{counted, counted_none, find_part, finds_parts, no_tokens}

-- the cut up to the rest goes on to the other
abbrev pub GoesOn : List (Piece SourcePart Token) → List Token → List (Piece SourcePart Token) → List Token → Type 0
GoesOn ps rest qs other = (more : List (Piece SourcePart Token)) × (qs ≡ ps ++ more) × AreParts rest more other

-- what is found at the front of a cut that has a part
first_found : (all : List Token) (p : Piece SourcePart Token) (ps : List (Piece SourcePart Token)) (rest : List Token) → AreParts all (p ∷ ps) rest
    → (find_part all ≡ Some (p.kind, length p.text)) × (all ≡ p.text ++ (texts ps ++ rest))
first_found all p ps rest c =
    let whole : all ≡ p.text ++ (texts ps ++ rest) = c.whole ∙ append_assoc p.text (texts ps) rest in
    (ap find_part whole ∙ finds_parts.is p.kind p.text (texts ps ++ rest) c.each.0 c.each.1, whole)

-- a list cut at a place
front_at : (all text rest : List Token) (n : ℕ) → all ≡ text ++ rest → n ≡ length text → (take n all ≡ text) × (drop n all ≡ rest)
front_at all text rest n whole len = rw (whole, len) (take-append_seam text rest, drop-append_seam text rest)

same_piece : (k j : SourcePart) (text other : List Token) → k ≡ j → text ≡ other → ◌≡◌ {A = Piece SourcePart Token} (record { kind = k; text = text }) (record { kind = j; text = other })
same_piece k j text other e f = ap (λ (x : SourcePart). record { kind = x; text = text }) e ∙ ap (λ (xs : List Token). record { kind = j; text = xs }) f

same_first : (all : List Token) (p q : Piece SourcePart Token) (ps qs : List (Piece SourcePart Token)) (rest other : List Token) → AreParts all (p ∷ ps) rest → AreParts all (q ∷ qs) other
    → (p ≡ q) × (texts ps ++ rest ≡ texts qs ++ other)
same_first all p q ps qs rest other c d =
    let f = first_found all p ps rest c in
    let g = first_found all q qs other d in
    let e = some_pair_parts p.kind q.kind (length p.text) (length q.text) (sym f.0 ∙ g.0) in
    let u = front_at all p.text (texts ps ++ rest) (length p.text) f.1 refl in
    let v = front_at all q.text (texts qs ++ other) (length p.text) g.1 e.1 in
    (same_piece p.kind q.kind p.text q.text e.0 (sym u.0 ∙ v.0), sym u.1 ∙ v.1)

go_on_behind : (p q : Piece SourcePart Token) (ps qs : List (Piece SourcePart Token)) (rest other : List Token) → p ≡ q → GoesOn ps rest qs other → GoesOn (p ∷ ps) rest (q ∷ qs) other
go_on_behind p q ps qs rest other same (more, is, cut) = (more, ap (λ (x : Piece SourcePart Token). x ∷ qs) (sym same) ∙ ap (λ (xs : List (Piece SourcePart Token)). p ∷ xs) is, cut)

pub comparable : (all : List Token) (ps qs : List (Piece SourcePart Token)) (rest other : List Token) → AreParts all ps rest → AreParts all qs other
    → GoesOn ps rest qs other ⊎ GoesOn qs other ps rest
comparable all [] qs rest other c d = inl (qs, refl, subst (λ xs. AreParts xs qs other) c.whole d)
comparable all (p ∷ ps) [] rest other c d = inr (p ∷ ps, refl, subst (λ xs. AreParts xs (p ∷ ps) rest) d.whole c)
comparable all (p ∷ ps) (q ∷ qs) rest other c d =
    let s = same_first all p q ps qs rest other c d in
    elim (comparable (texts ps ++ rest) ps qs rest other (record { whole = refl; each = c.each.2 }) (record { whole = s.1; each = d.each.2 })) [
      | inl on ↦ inl (go_on_behind p q ps qs rest other s.0 on)
      | inr on ↦ inr (go_on_behind q p qs ps other rest (sym s.0) on)
    ]

-- no part is read where the reading is wrong, and only there
pub no_part : (rest : List Token) (w : SyntaxError) → part_at rest ≡ Err w → NothingReads IsPart StopsPart rest
unfolding find_part
no_part rest w e = none_nothing finds_parts rest (ap (counted (length rest)) e)

pub wrong_there : (rest : List Token) → NothingReads IsPart StopsPart rest → (w : SyntaxError) × (part_at rest ≡ Err w)
unfolding find_part
wrong_there rest nothing = counted_none (length rest) (part_at rest) (nothing_none finds_parts rest nothing)

-- a cut does not go on where nothing reads
pub no_further : (rest : List Token) (m : Piece SourcePart Token) (more : List (Piece SourcePart Token)) (other : List Token) → NothingReads IsPart StopsPart rest → AreParts rest (m ∷ more) other → ⊥
no_further rest m more other nothing c = nothing m.kind m.text (texts more ++ other) (c.whole ∙ append_assoc m.text (texts more) other) c.each.0 c.each.1

pub said_append : (ps more : List (Piece SourcePart Token)) → statements_of_parts (ps ++ more) ≡ statements_of_parts ps ++ statements_of_parts more
said_append [] more = refl
said_append (p ∷ ps) more = ap (λ ss. told p.kind p.text ++ ss) (said_append ps more) ∙ sym (append_assoc (told p.kind p.text) (statements_of_parts ps) (statements_of_parts more))

-- a part that begins with a token that ends nothing says a statement
tells_one : (p : SourcePart) (t : Token) (us text after : List Token) (ss : List Statement) → is_end t.kind ≡ false → t ∷ us ≡ text ++ after → IsPart p text → 0 < length (told p text ++ ss)
tells_one Ends t us text after ss no_end whole (u, w, ends) =
    let first : t ∷ us ≡ u ∷ after = whole ∙ ap (λ xs. xs ++ after) w in
    let end : is_end t.kind ≡ true = ap (λ (k : Token). is_end k.kind) (heads first) ∙ ends in
    absurd (cc)
tells_one (Says s) t us [] after ss no_end whole spelled = let some : 0 < 0 = finds_parts.some (Says s) [] spelled in omega (arith, some)
tells_one (Says s) t us (v ∷ vs) after ss no_end whole spelled = omega arith

pub says_more : (t : Token) (us : List Token) (m : Piece SourcePart Token) (more : List (Piece SourcePart Token)) (other : List Token) → is_end t.kind ≡ false
    → AreParts (t ∷ us) (m ∷ more) other → 0 < length (statements_of_parts (m ∷ more))
says_more t us m more other no_end c =
    tells_one m.kind t us m.text (texts more ++ other) (statements_of_parts more) no_end (c.whole ∙ append_assoc m.text (texts more) other) c.each.0

pub nothing_more_said : (ps qs : List (Piece SourcePart Token)) → qs ≡ ps ++ [] → length (statements_of_parts ps) ≡ length (statements_of_parts qs)
nothing_more_said ps qs is =
    let counts : length (statements_of_parts qs) ≡ length (statements_of_parts ps ++ []) = ap (λ (xs : List (Piece SourcePart Token)). length (statements_of_parts xs)) is ∙ ap (λ (ss : List Statement). length ss) (said_append ps []) in
    omega (arith, counts, length-append (statements_of_parts ps) [])

-- nothing reads at the end of the tokens
pub none_at_end : NothingReads IsPart StopsPart []
none_at_end = none_nothing finds_parts [] no_tokens

-- a cut that goes on from a token that ends nothing is the same or says more
pub same_or_more : (t : Token) (us : List Token) (ps qs : List (Piece SourcePart Token)) (other : List Token) → is_end t.kind ≡ false → GoesOn ps (t ∷ us) qs other
    → ((t ∷ us ≡ other) × (length (statements_of_parts ps) ≡ length (statements_of_parts qs))) ⊎ (length (statements_of_parts ps) < length (statements_of_parts qs))
same_or_more t us ps qs other no_end ([], is, c) = inl (c.whole, nothing_more_said ps qs is)
same_or_more t us ps qs other no_end (m ∷ more, is, c) =
    let counts : length (statements_of_parts qs) ≡ length (statements_of_parts ps ++ statements_of_parts (m ∷ more)) = ap (λ (xs : List (Piece SourcePart Token)). length (statements_of_parts xs)) is ∙ ap (λ (ss : List Statement). length ss) (said_append ps (m ∷ more)) in
    let some : 0 < length (statements_of_parts (m ∷ more)) = says_more t us m more other no_end c in
    inr (omega (arith, counts, some, length-append (statements_of_parts ps) (statements_of_parts (m ∷ more))))
