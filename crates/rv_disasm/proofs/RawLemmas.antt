-- Bytes are those of one list of instructions at most, and an image has one raw listing at most.

use Rattle.std.proofs.Common.{◌≡◌, ℕ, suc, ◌+◌, ◌<◌, true, List, [], ◌∷◌, ◌++◌, length, drop, drop-cons, get_or, take, map, flat_map, append_assoc, Option, Some, None, refl, sym, ap, ◌∙◌, subst, arith}
use Rattle.std.specs.Prelude.{codes, filter, is_some, option_map}
use Rattle.std.specs.Option.{option_to_list}
use Rattle.std.proofs.lemmas.Bool.{cond-true}
use Rattle.std.proofs.lemmas.List.Elements.{filter-append}
use Rattle.std.specs.List.{AllByRecursion}
use Rattle.std.proofs.lemmas.List.{append-nil, drop-drop, length-append, length-drop, map-append, take-append-drop}
use Rattle.std.proofs.lemmas.Grind.{flat_map-append}
use Rattle.std.proofs.lemmas.Option.{none-some}
use Rattle.std.proofs.Math.Seq.{drop-append_seam, take-append_seam}
use Rattle.rv_list_laws.proofs.EachLemmas.{each_append, each_split}
use Rattle.rv_list_laws.proofs.ElementsLemmas.{one_is_not_two, one_item_same}
use Rattle.rv_image.specs.declared.segment.Segment.{Segment as DeclaredSegment}
use Rattle.rv_image_laws.specs.Segment.{Segment}
use Rattle.rv_image.specs.SegmentView.{segment_of}
use Rattle.rv_image_laws.specs.Image.{Image}
use Rattle.rv_listing_laws.specs.declared.code.Code.{Code}
use Rattle.rv_listing_laws.specs.declared.code.Code.TheVariants.{Word, Parcel}
use Rattle.rv_listing_laws.specs.Raw.{raw_bytes, IsSourced, code_text, lines_text, raw_lines, is_executable, IsRawListing}
use Rattle.rv_disasm.specs.RawParts.{IsFront, AreCodes, AreAdded, IsCut}
use Rattle.rv_disasm.proofs.CodesLemmas.{one_code, same_rest}

-- ---- lists of instructions

some_bytes : (c : Code) → 0 < length (raw_bytes c)
some_bytes (Word i) = omega arith
some_bytes (Parcel c) = omega arith

-- bytes that begin with an instruction are not at their end
not_ended : (c : Code) (rest : List ℕ) → [] ≡ raw_bytes c ++ rest → ⊥
not_ended c rest e =
    let some = some_bytes c in
    let long : 0 ≡ length (raw_bytes c) + length rest = ap length e ∙ length-append (raw_bytes c) rest in
    absurd (omega (arith, some, long))

-- behind instructions with which bytes begin stand others, where all of them are instructions
left_of : (cs ds : List Code) (rest : List ℕ) → AllByRecursion IsSourced cs → AllByRecursion IsSourced ds → flat_map raw_bytes cs ++ rest ≡ flat_map raw_bytes ds →
    (es : List Code) × AreCodes rest es × (ds ≡ cs ++ es)
left_of [] ds rest _ sourced e = (ds, record { sourced = sourced; same = e }, refl)
left_of (c ∷ cs) [] rest all sourced e = absurd (not_ended c (flat_map raw_bytes cs ++ rest) (sym e ∙ append_assoc (raw_bytes c) (flat_map raw_bytes cs) rest))
left_of (c ∷ cs) (d ∷ ds) rest (s, all) (t, sourced) e =
    let front : raw_bytes c ++ (flat_map raw_bytes cs ++ rest) ≡ raw_bytes d ++ flat_map raw_bytes ds = sym (append_assoc (raw_bytes c) (flat_map raw_bytes cs) rest) ∙ e in
    let same : c ≡ d = one_code (raw_bytes d ++ flat_map raw_bytes ds) (flat_map raw_bytes cs ++ rest) (flat_map raw_bytes ds) c d s t (sym front) refl in
    let remaining = left_of cs ds rest all sourced (same_rest c d (flat_map raw_bytes cs ++ rest) (flat_map raw_bytes ds) same front) in
    (remaining.0, remaining.1, ap (λ k. k ∷ ds) (sym same) ∙ ap (λ l. c ∷ l) remaining.2)

-- bytes are those of one list of instructions
one_list : (bytes : List ℕ) (cs ds : List Code) → AreCodes bytes cs → AreCodes bytes ds → ds ≡ cs
one_list bytes cs ds a b =
    let remaining = left_of cs ds [] a.sourced b.sourced (append-nil (flat_map raw_bytes cs) ∙ sym a.same ∙ b.same) in
    go remaining.0 remaining.1 remaining.2
  where
    go : (es : List Code) → AreCodes [] es → ds ≡ cs ++ es → ds ≡ cs
    go [] none e = e ∙ append-nil cs
    go (d ∷ es) some e = absurd (not_ended d (flat_map raw_bytes es) some.same)

-- ---- a walk over bytes

-- the text so far has the lines of instructions with which bytes begin
pub record IsBegun (bytes rest old new : List ℕ) : Type 0 where
  pub cs : List Code
  pub sourced : AllByRecursion IsSourced cs
  pub same : bytes ≡ flat_map raw_bytes cs ++ rest
  pub lines : new ≡ old ++ lines_text (map code_text cs)

pub begun_more : (bytes rest old now new : List ℕ) (offset count : ℕ) (c : Code) → rest ≡ drop offset bytes → IsFront (Some c) rest → count ≡ length (raw_bytes c) →
    new ≡ now ++ code_text c ++ 10 ∷ [] → IsBegun bytes (drop offset bytes) old now → IsBegun bytes (drop (offset + count) bytes) old new
begun_more bytes rest old now new offset count c is found counted added so_far =
    let front = (found c).0 refl in
    let behind : drop (offset + count) bytes ≡ front.1.0 =
    sym (drop-drop count offset bytes) ∙ ap (drop count) (sym is ∙ front.1.1) ∙ ap (λ n. drop n (raw_bytes c ++ front.1.0)) counted ∙ drop-append_seam (raw_bytes c) front.1.0 in
    let here : drop offset bytes ≡ raw_bytes c ++ drop (offset + count) bytes = sym is ∙ front.1.1 ∙ ap (λ r. raw_bytes c ++ r) (sym behind) in
    record {
      cs = so_far.cs ++ c ∷ [];
      sourced = each_append IsSourced so_far.cs (c ∷ []) so_far.sourced (front.0, tt);
      same =
          so_far.same ∙ ap (λ r. flat_map raw_bytes so_far.cs ++ r) here
          ∙ sym (append_assoc (flat_map raw_bytes so_far.cs) (raw_bytes c) (drop (offset + count) bytes))
          ∙ ap (λ r. r ++ drop (offset + count) bytes)
          (ap (λ r. flat_map raw_bytes so_far.cs ++ r) (sym (append-nil (raw_bytes c))) ∙ sym (flat_map-append raw_bytes so_far.cs (c ∷ [])));
      lines =
          added ∙ append_assoc now (code_text c) (10 ∷ []) ∙ ap (λ t. t ++ (code_text c ++ 10 ∷ [])) so_far.lines
          ∙ append_assoc old (lines_text (map code_text so_far.cs)) (code_text c ++ 10 ∷ [])
          ∙ ap (λ t. old ++ t)
          (ap (λ t. lines_text (map code_text so_far.cs) ++ t) (sym (append-nil (code_text c ++ 10 ∷ [])))
          ∙ sym (flat_map-append (λ line. line ++ 10 ∷ []) (map code_text so_far.cs) (code_text c ∷ []))
          ∙ ap lines_text (sym (map-append code_text so_far.cs (c ∷ []))));
    }

-- bytes that no instruction begins are none's
pub begun_none : (bytes rest old now : List ℕ) (offset : ℕ) → rest ≡ drop offset bytes → offset < length bytes → IsFront None rest → IsBegun bytes (drop offset bytes) old now →
    (ds : List Code) → AreCodes bytes ds → ⊥
begun_none bytes rest old now offset is within found so_far ds codes =
    let remaining = left_of so_far.cs ds (drop offset bytes) so_far.sourced codes.sourced (sym so_far.same ∙ codes.same) in
    go remaining.0 remaining.1
  where
    go : (es : List Code) → AreCodes (drop offset bytes) es → ⊥
    go [] none = let long = sym (length-drop offset bytes) ∙ ap length none.same in absurd (omega (arith, long, within))
    go (e ∷ es) some = absurd (none-some e ((found e).1 (some.sourced.0, (flat_map raw_bytes es, is ∙ some.same))))

-- ---- segments and images

-- a second one that can be executed
pub second_found : {R : Type 0} (show : R → Segment) (segments : List DeclaredSegment) (i : ℕ) (d : DeclaredSegment) (found : Option R) → i < length segments → is_some found ≡ true →
    filter is_executable (map segment_of (take i segments)) ≡ option_to_list (option_map show found) → is_executable (segment_of (get_or segments i d)) ≡ true →
    (other : Segment) → filter is_executable (map segment_of segments) ≡ other ∷ [] → ⊥
second_found show segments i d None within some so_far here other all = absurd (cc)
second_found show segments i d (Some r) within some so_far here other all =
    let s = get_or segments i d in
    let behind = drop (suc i) segments in
    let parts : segments ≡ take i segments ++ (s ∷ behind) = sym (take-append-drop i segments) ∙ ap (λ l. take i segments ++ l) (drop-cons segments i d within) in
    let apart =
    ap (λ l. filter is_executable (map segment_of l)) parts
    ∙ ap (filter is_executable) (map-append segment_of (take i segments) (s ∷ behind))
    ∙ filter-append is_executable (map segment_of (take i segments)) (segment_of s ∷ map segment_of behind)
    ∙ ap (λ l. l ++ filter is_executable (segment_of s ∷ map segment_of behind)) so_far
    ∙ ap (λ l. show r ∷ l) (cond-true _ _ _ here) in
    one_is_not_two other (show r) (segment_of s) (filter is_executable (map segment_of behind)) (sym all ∙ apart)

-- a segment has one cut at an address
pub one_cut : (s : Segment) (start : ℕ) (b a b' a' : List ℕ) → IsCut s start b a → IsCut s start b' a' → (b ≡ b') × (a ≡ a')
one_cut s start b a b' a' c d =
    let e = sym c.entry ∙ d.entry in
    let long : length b ≡ length b' = omega (arith, e) in
    let same = sym c.bytes ∙ d.bytes in (
      sym (take-append_seam b a) ∙ ap (take (length b)) same ∙ ap (λ n. take n (b' ++ a')) long ∙ take-append_seam b' a',
      sym (drop-append_seam b a) ∙ ap (drop (length b)) same ∙ ap (λ n. drop n (b' ++ a')) long ∙ drop-append_seam b' a',
    )

-- a list of instructions with an element has bytes
some_length : (cs : List Code) → 0 < length cs → 0 < length (flat_map raw_bytes cs)
some_length [] some = absurd (omega (arith, some))
some_length (c ∷ cs) some = let n = some_bytes c in let long = length-append (raw_bytes c) (flat_map raw_bytes cs) in omega (arith, n, long)

-- and the other way round
some_codes : (cs : List Code) → 0 < length (flat_map raw_bytes cs) → 0 < length cs
some_codes [] some = absurd (omega (arith, some))
some_codes (c ∷ cs) some = omega arith

-- what a raw listing says of a segment that alone can be executed
pub record IsShown (s : Segment) (start : ℕ) (before after : List Code) : Type 0 where
  pub cut : IsCut s start (flat_map raw_bytes before) (flat_map raw_bytes after)
  pub sourced_before : AreCodes (flat_map raw_bytes before) before
  pub sourced_after : AreCodes (flat_map raw_bytes after) after

pub shown : (image : Image) (text : List ℕ) (s : Segment) → filter is_executable image.segments ≡ s ∷ [] → (r : IsRawListing image text) → IsShown s image.entry r.before r.after
shown image text s alone r =
    let same : r.segment ≡ s = one_item_same r.segment s (sym r.alone ∙ alone) in
    let parts = each_split IsSourced r.before r.after r.sourced in
    subst (λ k. IsShown k image.entry r.before r.after) same (
    record {
      cut = record {
        aligned = r.aligned;
        below = r.below;
        bytes = r.bytes ∙ flat_map-append raw_bytes r.before r.after;
        some = some_length r.after r.some;
        entry = r.entry;
      };
      sourced_before = record { sourced = parts.0; same = refl };
      sourced_after = record { sourced = parts.1; same = refl };
    }
    )

-- the lines before the first instruction
abbrev pub heading : List ℕ
heading = codes ".option norvc\n.option norelax\n.globl _start\n"

-- all lines, as they are added one after another
pub lines_are : (cs ds : List Code) → lines_text (raw_lines cs ds) ≡ (heading ++ lines_text (map code_text cs)) ++ codes "_start:\n" ++ lines_text (map code_text ds)
lines_are cs ds =
    ap (λ t. heading ++ t) (flat_map-append (λ line. line ++ 10 ∷ []) (map code_text cs) (codes "_start:" ∷ map code_text ds))
    ∙ sym (append_assoc heading (lines_text (map code_text cs)) (codes "_start:\n" ++ lines_text (map code_text ds)))
    ∙ sym (append_assoc (heading ++ lines_text (map code_text cs)) (codes "_start:\n") (lines_text (map code_text ds)))

-- the segment that alone can be executed, where a function goes over the segments
pub alone_in : (segments now : List DeclaredSegment) (s : Segment) → now ≡ segments → filter is_executable (map segment_of now) ≡ s ∷ [] → filter is_executable (map segment_of segments) ≡ s ∷ []
alone_in segments now s is alone = ap (λ l. filter is_executable (map segment_of l)) (sym is) ∙ alone

-- the listing, from the text of its parts
pub listed : (image : Image) (s : Segment) (b a first begins labelled text : List ℕ) → filter is_executable image.segments ≡ s ∷ [] → IsCut s image.entry b a →
    first ≡ heading → AreAdded b first begins → labelled ≡ begins ++ codes "_start:\n" → AreAdded a labelled text → IsRawListing image text
listed image s b a first begins labelled text alone cut is before label after = record {
  segment = s;
  alone = alone;
  aligned = cut.aligned;
  below = cut.below;
  before = before.cs;
  after = after.cs;
  sourced = each_append IsSourced before.cs after.cs before.codes.sourced after.codes.sourced;
  bytes = cut.bytes ∙ ap (λ x. x ++ a) before.codes.same ∙ ap (λ x. flat_map raw_bytes before.cs ++ x) after.codes.same ∙ sym (flat_map-append raw_bytes before.cs after.cs);
  some = some_codes after.cs (subst (λ x. 0 < length x) after.codes.same cut.some);
  entry = cut.entry ∙ ap (λ x. s.address + length x) before.codes.same;
  shows =
      after.lines
      ∙ ap (λ t. t ++ lines_text (map code_text after.cs)) (label ∙ ap (λ t. t ++ codes "_start:\n") (before.lines ∙ ap (λ t. t ++ lines_text (map code_text before.cs)) is))
      ∙ sym (lines_are before.cs after.cs);
}

-- and that there is none, where the bytes of one part are no instructions
pub no_before : (image : Image) (s : Segment) (b a : List ℕ) → filter is_executable image.segments ≡ s ∷ [] → IsCut s image.entry b a → ((cs : List Code) → AreCodes b cs → ⊥) →
    (text : List ℕ) → IsRawListing image text → ⊥
no_before image s b a alone cut never text r =
    let k = shown image text s alone r in
    never r.before (subst (λ x. AreCodes x r.before) (sym (one_cut s image.entry b a (flat_map raw_bytes r.before) (flat_map raw_bytes r.after) cut k.cut).0) k.sourced_before)

pub no_after : (image : Image) (s : Segment) (b a : List ℕ) → filter is_executable image.segments ≡ s ∷ [] → IsCut s image.entry b a → ((cs : List Code) → AreCodes a cs → ⊥) →
    (text : List ℕ) → IsRawListing image text → ⊥
no_after image s b a alone cut never text r =
    let k = shown image text s alone r in
    never r.after (subst (λ x. AreCodes x r.after) (sym (one_cut s image.entry b a (flat_map raw_bytes r.before) (flat_map raw_bytes r.after) cut k.cut).1) k.sourced_after)

pub one_raw_listing : (image : Image) (text other : List ℕ) → IsRawListing image text → IsRawListing image other → text ≡ other
one_raw_listing image text other r q =
    let a = shown image text r.segment r.alone r in
    let b = shown image other r.segment r.alone q in
    let same = one_cut r.segment image.entry (flat_map raw_bytes r.before) (flat_map raw_bytes r.after) (flat_map raw_bytes q.before) (flat_map raw_bytes q.after) a.cut b.cut in
    let before : q.before ≡ r.before = one_list (flat_map raw_bytes q.before) r.before q.before (subst (λ x. AreCodes x r.before) same.0 a.sourced_before) b.sourced_before in
    let after : q.after ≡ r.after = one_list (flat_map raw_bytes q.after) r.after q.after (subst (λ x. AreCodes x r.after) same.1 a.sourced_after) b.sourced_after in
    r.shows ∙ ap (λ cs. lines_text (raw_lines cs r.after)) (sym before) ∙ ap (λ ds. lines_text (raw_lines q.before ds)) (sym after) ∙ sym q.shows
