-- The tokens of a source have at most one cut into parts, so bytes have at most one reading.

use Rattle.std.proofs.Common.{◌≡◌, ℕ, ◌-◌, ◌<◌, ◌≤◌, List, [], ◌++◌, length, length-append, Option, Some, None, Ok, Err, refl, sym, ◌∙◌, ap, subst, arith}
use Rattle.rv_expression_laws.specs.Cut.{Piece, Finds}
use Rattle.rv_expression_laws.specs.Lexing.{Token, Lexes}
use Rattle.rv_expression_laws.proofs.CutLemmas.{unique}
use Rattle.rv_statement_laws.specs.Statement.{Statement}
use Rattle.rv_parse_laws.specs.Syntax.{SourcePart, IsPart, StopsPart}
use Rattle.rv_parse_laws.specs.Parsing.{part_at}
use Rattle.rv_expression_laws.specs.SyntaxError.{SyntaxError, Read}
use Rattle.rv_expression_laws.proofs.TokensLemmas.{one_list, given}
use Rattle.rv_parse_laws.specs.Reading.{AreParts, Reads, statements_of_parts, IsPastLine, longest_source}
use Rattle.rv_statement_laws.specs.Limits.{most_statements}
use Rattle.rv_parse_laws.specs.Refusals.{SaysUpTo}
use Rattle.rv_expression_laws.specs.Front.{tokens_from}
use Rattle.rv_parse_laws.specs.Opening.{OpenWell}
use Rattle.rv_parse_laws.proofs.PartsLemmas.{part_is, part_found, part_nonempty}
use Rattle.rv_parse_laws.proofs.OpenedWellLemmas.{said_well}

-- a part and how many tokens it has, of a reading at the front of so many tokens
abbrev pub counted : ℕ → Read SourcePart → Option (SourcePart × ℕ)
counted n (Ok (p, rest)) = Some (p, n - length rest)
counted n (Err w) = None

unfoldable pub find_part : List Token → Option (SourcePart × ℕ)
find_part ts = counted (length ts) (part_at ts)

counted_some : (n : ℕ) (r : Read SourcePart) (p : SourcePart) (k : ℕ) → counted n r ≡ Some (p, k) → (rest : List Token) × (r ≡ Ok (p, rest)) × (k ≡ n - length rest)
counted_some n (Ok (q, rest)) p k e =
    let pair : (q, n - length rest) ≡ (p, k) = cc in
    (rest, ap (λ (x : SourcePart × ℕ). Ok (x.0, rest)) pair, sym (ap (λ (x : SourcePart × ℕ). x.1) pair))
counted_some n (Err w) p k e = absurd (cc)

pub counted_none : (n : ℕ) (r : Read SourcePart) → counted n r ≡ None → (w : SyntaxError) × (r ≡ Err w)
counted_none n (Ok (q, rest)) e = absurd (cc)
counted_none n (Err w) e = (w, refl)

part_some : (p : SourcePart) (text : List Token) → IsPart p text → 0 < length text
part_some p text is = let n = part_nonempty p text is in rw n.2 (omega arith)

seam : (text rest : List Token) → length (text ++ rest) - length rest ≡ length text
seam text rest = omega (arith, length-append text rest)

pub finds_parts : Finds SourcePart Token IsPart StopsPart find_part
unfolding find_part
finds_parts = record {
  is = λ p text rest spelled stops. ap (counted (length (text ++ rest))) (part_is p text rest spelled stops) ∙ ap (λ n. Some (p, n)) (seam text rest);
  found = λ all p n e. found all p n e;
  some = part_some;
}
  where
    found : (all : List Token) (p : SourcePart) (n : ℕ) → find_part all ≡ Some (p, n)
        → (text : List Token) × (rest : List Token) × (all ≡ text ++ rest) × (n ≡ length text) × IsPart p text × StopsPart p rest
    found all p n e =
        let c = counted_some (length all) (part_at all) p n e in
        let f = part_found all p c.0 c.1 in
        (f.0, c.0, f.1, c.2 ∙ ap (λ (us : List Token). length us - length c.0) f.1 ∙ seam f.0 c.0, f.2, f.3)

pub no_tokens : find_part [] ≡ None
unfolding find_part part_at
no_tokens = refl

-- tokens are cut into parts in one way
pub one_cut : (ts : List Token) (ps qs : List (Piece SourcePart Token)) → AreParts ts ps [] → AreParts ts qs [] → ps ≡ qs
one_cut ts ps qs c d =
    let p : (ps, []) ≡ (qs, []) = sym (unique finds_parts ts ps [] c no_tokens) ∙ unique finds_parts ts qs [] d no_tokens in
    ap (λ (x : List (Piece SourcePart Token) × List Token). x.0) p

-- bytes have at most one reading
pub one_reading : (bytes : List ℕ) (ss others : List Statement) → Reads bytes ss → Reads bytes others → ss ≡ others
one_reading bytes ss others (a, b, c, ts, ps, lexes, cuts, says, opens) (d, e, f, us, qs, lexes', cuts', says', opens') =
    let same : ts ≡ us = one_list bytes ts us lexes lexes' in
    says ∙ ap statements_of_parts (one_cut us ps qs (subst (λ xs. AreParts xs ps []) same cuts) cuts') ∙ sym says'

-- what the tokens of bytes say within the limits is their reading
pub reads_as : (bytes : List ℕ) (ts : List Token) (ss : List Statement) → length bytes ≤ longest_source → ((place : ℕ) → IsPastLine bytes place → ⊥) → length ss ≤ most_statements
    → ts ≡ tokens_from 0 1 bytes → SaysUpTo ts [] ss → Reads bytes ss
reads_as bytes ts ss short lines few is (ps, cuts, opens, says) =
    (short, lines, few, ts, ps, subst (Lexes bytes) (sym is) (given bytes), cuts, says, subst (OpenWell []) (sym says) (said_well [] ps [] cuts.each opens))
