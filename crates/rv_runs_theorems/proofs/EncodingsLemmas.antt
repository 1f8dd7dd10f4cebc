-- The instructions of a statement stand at the front of its bytes, one after another.

use Rattle.std.proofs.Common.{◌≡◌, ℕ, ◌+◌, ◌*◌, ◌/◌, ◌%◌, ◌^◌, ◌<◌, ◌≤◌, List, [], ◌∷◌, ◌++◌, length, drop, map, flat_map, refl, sym, ap, ◌∙◌, subst, arith, Option, Some, inl, inr}
use Rattle.std.proofs.lemmas.List.{length-append}
use Rattle.std.specs.List.{AllByRecursion}
use Rattle.rv_list_laws.proofs.TakeDropLemmas.{drop_front}
use Rattle.rv_isa.specs.declared.instruction.Inst.{Inst}
use Rattle.rv_isa.specs.Ranges.{IsValid}
use Rattle.rv_isa_laws.specs.Bytes.{little_endian}
use Rattle.rv_isa_laws.specs.Reader.{Reader}
use Rattle.rv_isa_laws.specs.Word.{form, word, Spells}
use Rattle.rv_parcel.specs.declared.form.Compressed.{Compressed}
use Rattle.rv_parcel.specs.Parcel.{StandsFor}
use Rattle.rv_parcel.specs.Front.{FrontSpells}
use Rattle.rv_source_laws.specs.Lines.{Line, Lie}
use Rattle.rv_listing_laws.specs.Lines.{front, length_read, line, lines}
use Rattle.rv_listing_laws.proofs.FrontsLemmas.{spelled_front}
use Rattle.rv_listing_laws.proofs.LinesOnLemmas.{lines_step, lines_end}
use Rattle.rv_chain_laws.specs.Contents.{AreEncoded}
use Rattle.rv_runs_theorems.proofs.WideLemmas.{valid_wide}
use Rattle.rv_runs_theorems.proofs.NarrowLemmas.{narrow}
use Rattle.rv_runs_theorems.proofs.ContentsLemmas.{IsSpelled, line_spelled, line_length}
use Rattle.rv_chain_laws.specs.SourceListing.{line_text}

-- ---- the instruction at the front of bytes

word_bytes : (w : ℕ) → w < 2 ^ 32 → w % 256 + w / 256 % 256 * 2 ^ 8 + w / 256 / 256 % 256 * 2 ^ 16 + w / 256 / 256 / 256 % 256 * 2 ^ 24 ≡ w
word_bytes w below = omega arith

parcel_bytes : (q : ℕ) → q < 2 ^ 16 → q % 256 + q / 256 % 256 * 2 ^ 8 ≡ q
parcel_bytes q below = omega arith

front_of_word : (i : Inst) (w : ℕ) (rest : List ℕ) → IsValid i → word (form i) ≡ w → w < 2 ^ 32 → w % 4 ≡ 3 → FrontSpells (little_endian 4 w ++ rest) i 4
front_of_word i w rest valid same below wide = inl (
  record {
    begins = omega arith;
    room = omega arith;
    spells = record { valid = valid; sum = same ∙ sym (word_bytes w below) };
  },
  refl,
)

front_of_parcel : (i : Inst) (q : ℕ) (rest : List ℕ) → StandsFor q i → FrontSpells (little_endian 2 q ++ rest) i 2
front_of_parcel i q rest stands =
    let n = narrow q stands.form stands.spells in
    let low = n.low in
    inr (
      record {
        begins = λ three. omega (arith, low, three);
        room = omega arith;
        stands = subst (λ p. StandsFor p i) (sym (parcel_bytes q n.below)) stands;
      },
      refl,
    )

front_of_line : (l : Line) (bytes rest : List ℕ) → IsValid l.instruction → IsSpelled l bytes → FrontSpells (bytes ++ rest) l.instruction l.bytes
front_of_line l bytes rest valid (inl (four, same)) =
    let w = valid_wide l.instruction valid in
    subst (λ b. FrontSpells (b ++ rest) l.instruction l.bytes) (sym same)
    (subst (λ n. FrontSpells (little_endian 4 (word (form l.instruction)) ++ rest) l.instruction n) (sym four)
    (front_of_word l.instruction (word (form l.instruction)) rest valid refl w.0 w.1))
front_of_line l bytes rest valid (inr (two, (q, stands, same))) =
    subst (λ b. FrontSpells (b ++ rest) l.instruction l.bytes) (sym same)
    (subst (λ n. FrontSpells (little_endian 2 q ++ rest) l.instruction n) (sym two) (front_of_parcel l.instruction q rest stands))

-- ---- all lines of a statement

some_bytes : (l : Line) (bytes : List ℕ) → IsSpelled l bytes → 1 ≤ l.bytes
some_bytes l bytes (inl (four, same)) = omega (arith, four)
some_bytes l bytes (inr (two, same)) = omega (arith, two)

pub lines_shown : (reader : Reader Spells StandsFor) (named : Option Compressed) (ls : List Line) (a stop : ℕ) (bytes : List ℕ) → Lie a ls stop → AreEncoded named ls bytes
    → AllByRecursion IsValid (map (λ (l : Line). l.instruction) ls) → lines reader 0 a bytes ≡ flat_map line_text ls
lines_shown reader named [] a stop bytes lie none valid = ap (λ b. lines reader 0 a b) none ∙ lines_end reader a
lines_shown reader named (l ∷ ls) a stop bytes (at, lie) (written, (rest, joined, one, more)) (v, vs) =
    let spelled : IsSpelled l written = line_spelled named l written one in
    let here : length written ≡ l.bytes = line_length l written spelled in
    let some : 1 ≤ l.bytes = some_bytes l written spelled in
    let found : front reader (written ++ rest) ≡ Some (l.instruction, l.bytes) = spelled_front reader (written ++ rest) l.instruction l.bytes (front_of_line l written rest v spelled) in
    let long : length (written ++ rest) ≡ length written + length rest = length-append written rest in
    let behind : drop l.bytes (written ++ rest) ≡ rest = ap (λ n. drop n (written ++ rest)) (sym here) ∙ drop_front written rest in
    ap (λ b. lines reader 0 a b) joined
    ∙ lines_step reader a l.bytes (written ++ rest) (omega (arith, long, here, some)) some (sym (ap length_read found))
    ∙ ap (λ f. line a f ++ lines reader 0 (a + l.bytes) (drop l.bytes (written ++ rest))) found
    ∙ ap (λ x. line x (Some (l.instruction, l.bytes)) ++ lines reader 0 (a + l.bytes) (drop l.bytes (written ++ rest))) (sym at)
    ∙ ap (λ b. line_text l ++ lines reader 0 (a + l.bytes) b) behind
    ∙ ap (λ t. line_text l ++ t) (lines_shown reader named ls (a + l.bytes) stop rest lie more vs)
