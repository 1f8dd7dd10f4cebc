-- What a memory of pages knows of its segments, before and after bytes are put.

use Rattle.std.proofs.Common.{◌≡◌, ℕ, suc, ◌+◌, ◌-◌, ◌%◌, ◌^◌, ◌<◌, Bool, true, false, cond, List, [], ◌∷◌, Option, Some, None, length, get_or, refl, ap, sym, subst, ◌∙◌, arith}
use Rattle.rv_isa_laws.specs.Memory.{Mem, Right, Execute, may}
use Rattle.rv_image_laws.specs.Segment.{Segment}
use Rattle.rv_image_laws.specs.Memory.{lies_in, segment_at, gives_right, right_in}
use Rattle.rv_memory.specs.Rights.{IsWidth}
use Rattle.rv_memory.specs.Stretches.{IsStretch, AreAlike}
use Rattle.rv_memory.specs.Pages.{AreOrdered, AreBehind, AreListed}
use Rattle.rv_memory.specs.Flat.{memory_of, no_segment}
use Rattle.rv_memory.specs.Unmade.{IsUnmade, with_unmade}
use Rattle.rv_memory.specs.Quick.{room_of, IsQuick, IsEnd, AreNear, AreKnown}
use Rattle.rv_memory.specs.declared.page.Page.{Page}
use Rattle.rv_memory.specs.declared.stretch.Near.{Near}
use Rattle.rv_memory.specs.declared.stretch.Nears.{Nears}
use Rattle.std.proofs.lemmas.Bool.{and_parts}
use Rattle.rv_memory.proofs.FlatLemmas.{holds-same}
use Rattle.rv_memory.proofs.MemoryLemmas.{may-at}
use Rattle.rv_memory.proofs.StretchLemmas.{still}

alike-rest : (s t : Segment) (ss ts : List Segment) → AreAlike (s ∷ ss) (t ∷ ts) → AreAlike ss ts
alike-rest s t ss ts alike = record {
  count = omega (arith, alike.count);
  addresses = λ k. alike.addresses (suc k);
  lengths = λ k. alike.lengths (suc k);
  flags = λ k. alike.flags (suc k);
}

right-by : (b : Bool) (s t : Segment) (o p : Option Segment) (r : Right) → t.flags ≡ s.flags → right_in o r ≡ right_in p r →
    right_in (cond b (Some t) o) r ≡ right_in (cond b (Some s) p) r
right-by true s t o p r same e = ap (λ (f : ℕ). gives_right f r) same
right-by false s t o p r same e = e

-- each byte has the rights that it had
alike-rights : (x : ℕ) (r : Right) (ss ts : List Segment) → AreAlike ss ts → right_in (segment_at ts x) r ≡ right_in (segment_at ss x) r
alike-rights x r [] [] alike = refl
alike-rights x r [] (t ∷ ts) alike = absurd (omega (arith, alike.count))
alike-rights x r (s ∷ ss) [] alike = absurd (omega (arith, alike.count))
alike-rights x r (s ∷ ss) (t ∷ ts) alike =
    let here : lies_in t x ≡ lies_in s x = holds-same s t x (alike.addresses 0) (alike.lengths 0) in
    let rest = alike-rights x r ss ts (alike-rest s t ss ts alike) in
    rw here (right-by (lies_in s x) s t (segment_at ts x) (segment_at ss x) r (alike.flags 0) rest)

-- no address gets a segment
none-by : (b : Bool) (s t : Segment) (o p : Option Segment) → (o ≡ None → p ≡ None) → cond b (Some s) o ≡ None → cond b (Some t) p ≡ None
none-by true s t o p rest none = absurd (cc)
none-by false s t o p rest none = rest none

none-still : (x : ℕ) (ss ts : List Segment) → AreAlike ss ts → segment_at ss x ≡ None → segment_at ts x ≡ None
none-still x [] [] alike none = refl
none-still x [] (t ∷ ts) alike none = absurd (omega (arith, alike.count))
none-still x (s ∷ ss) [] alike none = refl
none-still x (s ∷ ss) (t ∷ ts) alike none =
    let here : lies_in t x ≡ lies_in s x = holds-same s t x (alike.addresses 0) (alike.lengths 0) in
    rw here (none-by (lies_in s x) s t (segment_at ss x) (segment_at ts x) (none-still x ss ts (alike-rest s t ss ts alike)) none)

pub unmade-still : (ss ts : List Segment) (i base : ℕ) → AreAlike ss ts → IsUnmade ss i base → IsUnmade ts i base
unmade-still ss ts i base alike is = record {
  within = omega (arith, is.within, alike.count);
  top = record {
    starts = alike.addresses i ∙ is.top.starts;
    ends = omega (arith, is.top.ends, alike.lengths i);
    flags = alike.flags i ∙ is.top.flags;
  };
  above = is.above;
  free = λ x low high. none-still x ss ts alike (is.free x low high);
}

ordered-still : (ss ts : List Segment) → AreAlike ss ts → AreOrdered ss → AreOrdered ts
ordered-still ss ts alike ordered = record {
  rises = λ i j low within. rw (alike.addresses i, alike.addresses j) (ordered.rises i j low (omega (arith, within, alike.count)));
  filled = λ i within. rw (alike.lengths i) (ordered.filled i (omega (arith, within, alike.count)));
}

behind-still : (ss ts : List Segment) → AreAlike ss ts → AreBehind ss → AreBehind ts
behind-still [] [] alike behind = behind
behind-still [] (t ∷ ts) alike behind = absurd (omega (arith, alike.count))
behind-still (s ∷ ss) [] alike behind = absurd (omega (arith, alike.count))
behind-still (s ∷ ss) (t ∷ ts) alike behind = ordered-still ss ts (alike-rest s t ss ts alike) behind

pages-still : (ss ts : List Segment) (pages : List Page) → AreAlike ss ts → AreListed ss pages → AreListed ts pages
pages-still ss ts pages alike are = record {
  ascending = are.ascending;
  all = λ x none. none-still x ss ts alike (are.all x none);
  stack = are.stack;
}

quick-still : (ss ts : List Segment) (i : ℕ) (near : Near) (r : Right) → AreAlike ss ts → IsQuick ss i near r → IsQuick ts i near r
quick-still ss ts i near r alike quick = λ bytes width. still ss ts i near.start (room_of near bytes) bytes r alike (quick bytes width)

near-still : (ss ts : List Segment) (nears : Nears) → AreAlike ss ts → AreNear ss nears → AreNear ts nears
near-still ss ts nears alike are = record {
  code_executes = quick-still ss ts 0 nears.code Execute alike are.code_executes;
  code_ends = λ some. alike-rights _ Execute ss ts alike ∙ are.code_ends some;
  low_reads = quick-still ss ts _ nears.low _ alike are.low_reads;
  low_writes = quick-still ss ts _ nears.low_written _ alike are.low_writes;
  high_reads = quick-still ss ts _ nears.high _ alike are.high_reads;
  high_writes = quick-still ss ts _ nears.high_written _ alike are.high_writes;
  below_reads = quick-still ss ts _ nears.below _ alike are.below_reads;
}

pub known-still : (ss ts : List Segment) (pages : List Page) (nears : Nears) → AreAlike ss ts → AreKnown ss pages nears → AreKnown ts pages nears
known-still ss ts pages nears alike known = record {
  behind = behind-still ss ts alike known.behind;
  listed = pages-still ss ts pages alike known.listed;
  near = near-still ss ts nears alike known.near;
}

-- the stretch for an access of a width
pub quick-at : (ss : List Segment) (i j start room bytes n : ℕ) (near : Near) (r : Right) → IsQuick ss i near r → IsWidth bytes → j ≡ i → start ≡ near.start →
    n ≡ bytes → room ≡ room_of near n → IsStretch ss j start room bytes r
quick-at ss i j start room bytes n near r quick width same begins fits is =
    rw (same, begins, is, fits) (quick bytes width)

-- bytes that begin before the end of code and go on behind it lack the right
pub past-end : (ss : List Segment) (base start n a bytes k : ℕ) → IsEnd ss start n → k ≡ (a + (2 ^ 64 - start)) % 2 ^ 64 → k < n → n - k < bytes →
    a < 2 ^ 64 → start < 2 ^ 64 → may (with_unmade base (memory_of ss)) a bytes Execute ≡ false
past-end ss base start n a bytes k ends is low past small begins = never (may (with_unmade base (memory_of ss)) a bytes Execute) refl
  where
    never : (b : Bool) → may (with_unmade base (memory_of ss)) a bytes Execute ≡ b → b ≡ false
    never false e = refl
    never true e =
        let m : Mem = with_unmade base (memory_of ss) in
        let x : ℕ = (a + (n - k)) % 2 ^ 64 in
        let one = may-at m a bytes (n - k) Execute past e in
        let both = and_parts (m.has (x % 2 ^ 64) Execute) (may m (x + 1) 0 Execute) one in
        let place : x % 2 ^ 64 ≡ (start + n) % 2 ^ 64 = omega (arith, is, low, small, begins) in
        let some : (memory_of ss).has ((start + n) % 2 ^ 64) Execute ≡ true = subst (λ (y : ℕ). (memory_of ss).has y Execute ≡ true) place both.0 in
        let none : (memory_of ss).has ((start + n) % 2 ^ 64) Execute ≡ false = ends (omega (arith, low)) in
        absurd (cc)
