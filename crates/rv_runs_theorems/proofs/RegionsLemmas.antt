-- Sections one after another in a region: where their statements stand, and which bytes lie there.

use Rattle.std.proofs.Common.{◌≡◌, ℕ, zero, suc, ◌+◌, ◌-◌, ◌*◌, ◌/◌, ◌%◌, ◌<◌, ◌≤◌, Bool, true, false, List, [], ◌∷◌, ◌++◌, length, refl, sym, ap, ◌∙◌, subst, arith, map, append_assoc, length-append, inl, inr}
use Rattle.std.proofs.lemmas.Bool.Decides.{nat_tests}
use Rattle.std.proofs.lemmas.Bool.{cases_lt, or_cases, and_parts, ltb-true, leb-true}
use Rattle.std.proofs.lemmas.List.{length-replicate, get_or-replicate}
use Rattle.std.proofs.lemmas.List.Sums.{sum_by-cons}
use Rattle.std.proofs.Math.Nat.{mod-eq-sub-div-mul, div-mul-le_self, mod-lt}
use Rattle.std.specs.Prelude.{nat_le, nat_lt, if◌then◌else◌, flat_map, slice_index}
use Rattle.std.specs.List.{AllByRecursion, list_any}
use Rattle.rv_size_laws.specs.Alignment.{aligned}
use Rattle.rv_isa_laws.specs.Bytes.{zeros}
use Rattle.rv_isa_laws.specs.Memory.{Mem}
use Rattle.rv_size_laws.proofs.AlignmentLemmas.{aligned_even}
use Rattle.rv_map_laws.specs.declared.map.Row.{Row}
use Rattle.rv_map_laws.specs.declared.map.Region.{Region}
use Rattle.rv_source_laws.specs.Program.{Mapped}
use Rattle.rv_source_laws.specs.Fits.{InputSection, rows_of, Follow, size, Stand, layout_end, gaps_of}
use Rattle.rv_source_laws.specs.Start.{is_within, is_in}
use Rattle.rv_chain_laws.specs.Contents.{contents}
use Rattle.rv_runs_theorems.proofs.WordsLemmas.{HasBytes, bytes_behind}

abbrev pub row_of : Mapped → Row
row_of s = s.row

pub within_parts : (a b x : ℕ) → is_within a b x ≡ true → (a ≤ x) × (x < b)
within_parts a b x e =
    let parts = and_parts (nat_le a x) (nat_lt x b) e in
    (leb-true a x parts.0, ltb-true x b parts.1)

-- ---- bytes in memory

pub bytes_front : (m : Mem) (a : ℕ) (bs cs : List ℕ) → HasBytes m a (bs ++ cs) → HasBytes m a bs
bytes_front m a [] cs h = tt
bytes_front m a (b ∷ bs) cs (h, hs) = (h, bytes_front m (a + 1) bs cs hs)

pub byte_at : (m : Mem) (bs : List ℕ) (a i : ℕ) → HasBytes m a bs → i < length bs → m.byte (a + i) ≡ slice_index bs i
byte_at m [] a i h below = absurd (omega arith)
byte_at m (b ∷ bs) a zero (h, hs) below = ap (λ x. m.byte x) (let e : a + 0 ≡ a = omega arith in e) ∙ h
byte_at m (b ∷ bs) a (suc i) (h, hs) below = ap (λ x. m.byte x) (let e : a + suc i ≡ a + 1 + i = omega arith in e) ∙ byte_at m bs (a + 1) i hs (omega arith)

pub byte_zero : (m : Mem) (n a x : ℕ) → HasBytes m a (zeros n) → a ≤ x → x < a + n → m.byte x ≡ 0
byte_zero m n a x h low high =
    let long : length (zeros n) ≡ n = length-replicate {A = ℕ} n 0 in
    let inside : x - a < length (zeros n) = omega arith in
    let at : a + (x - a) ≡ x = omega arith in
    ap (λ y. m.byte y) (sym at) ∙ byte_at m (zeros n) a (x - a) h inside ∙ get_or-replicate {A = ℕ} n (x - a) 0 0 (omega arith)

-- ---- the statements of one section

abbrev pub Sized : (Mapped → List ℕ) → Mapped → Type 0
Sized bytes s = length (bytes s) ≡ s.row.bytes

abbrev pub LiesIn : ℕ → ℕ → Mapped → Type 0
LiesIn low high s = (low ≤ s.row.address) × (s.row.address + s.row.bytes ≤ high)

abbrev pub Misses : ℕ → Mapped → Type 0
Misses x s = is_within s.row.address (s.row.address + s.row.bytes) x ≡ false

abbrev total : (s : Mapped) (ss : List Mapped) → size (map row_of (s ∷ ss)) ≡ s.row.bytes + size (map row_of ss)
total s ss = sum_by-cons (λ r. r.bytes) s.row (map row_of ss)

lie_follow : (ss : List Mapped) (a low high : ℕ) → Follow a (map row_of ss) → low ≤ a → a + size (map row_of ss) ≤ high → AllByRecursion (LiesIn low high) ss
lie_follow [] a low high f lo hi = tt
lie_follow (s ∷ ss) a low high (e, f) lo hi =
    let t = total s ss in
    let room : a + (s.row.bytes + size (map row_of ss)) ≤ high = subst (λ n. a + n ≤ high) t hi in
    ((omega arith, omega arith), lie_follow ss (a + s.row.bytes) low high f (omega arith) (omega arith))

held_follow : (bytes : Mapped → List ℕ) (m : Mem) (ss : List Mapped) (a : ℕ) (rest : List ℕ) → AllByRecursion (Sized bytes) ss → Follow a (map row_of ss) → HasBytes m a (flat_map bytes ss ++ rest)
    → AllByRecursion (λ s. HasBytes m s.row.address (bytes s)) ss × HasBytes m (a + size (map row_of ss)) rest
held_follow bytes m [] a rest z f h = (tt, subst (λ x. HasBytes m x rest) (let e : a ≡ a + 0 = omega arith in e) h)
held_follow bytes m (s ∷ ss) a rest (z, zs) (e, f) h =
    let joined : HasBytes m a (bytes s ++ (flat_map bytes ss ++ rest)) = subst (HasBytes m a) (append_assoc (bytes s) (flat_map bytes ss) rest) h in
    let behind : HasBytes m (a + s.row.bytes) (flat_map bytes ss ++ rest) = subst (λ n. HasBytes m (a + n) (flat_map bytes ss ++ rest)) z (bytes_behind m a (bytes s) (flat_map bytes ss ++ rest) joined) in
    let more = held_follow bytes m ss (a + s.row.bytes) rest zs f behind in
    let t = total s ss in
    let there : a + s.row.bytes + size (map row_of ss) ≡ a + size (map row_of (s ∷ ss)) = (let g : a + s.row.bytes + size (map row_of ss) ≡ a + (s.row.bytes + size (map row_of ss)) = omega arith in g) ∙ ap (λ n. a + n) (sym t) in (
      (subst (λ b. HasBytes m b (bytes s)) (sym e) (bytes_front m a (bytes s) (flat_map bytes ss ++ rest) joined), more.0),
      subst (λ x. HasBytes m x rest) there more.1,
    )

none_follow : (ss : List Mapped) (a x : ℕ) → AllByRecursion (Misses x) ss → Follow a (map row_of ss) → a ≤ x → x < a + size (map row_of ss) → ⊥
none_follow [] a x n f lo hi = let e : a + 0 ≡ a = omega arith in absurd (omega arith)
none_follow (s ∷ ss) a x (n, ns) (e, f) lo hi =
    let t = total s ss in
    let room : x < a + (s.row.bytes + size (map row_of ss)) = subst (λ n. x < a + n) t hi in
    elim (cases_lt x (a + s.row.bytes)) [
      | inl low ↦ (let inside : is_within s.row.address (s.row.address + s.row.bytes) x ≡ true = grind (arith, nat_tests) in cc)
      | inr high ↦ none_follow ss (a + s.row.bytes) x ns f high (omega arith)
    ]

length_follow : (bytes : Mapped → List ℕ) (ss : List Mapped) → AllByRecursion (Sized bytes) ss → length (flat_map bytes ss) ≡ size (map row_of ss)
length_follow bytes [] z = refl
length_follow bytes (s ∷ ss) (z, zs) =
    let more = length_follow bytes ss zs in
    length-append (bytes s) (flat_map bytes ss) ∙ ap (λ n. n + length (flat_map bytes ss)) z ∙ ap (λ n. s.row.bytes + n) more ∙ sym (total s ss)

-- ---- the sections of a region

abbrev pub AllIn : (Mapped → Type 0) → List InputSection → Type 0
AllIn P bs = AllByRecursion (λ b. AllByRecursion P b.mapped) bs

abbrev pub IsAligned : InputSection → Type 0
IsAligned b = 1 ≤ b.alignment

not_below : (x q r n a : ℕ) → r ≡ x - q → q ≤ x → r < n → x ≡ a + (n - 1) → a ≤ q
not_below x q r n a e le lt is = omega arith

pub above : (n a : ℕ) → 1 ≤ n → a ≤ aligned n a
above n a some =
    let x = a + (n - 1) in
    not_below x (x / n * n) (x % n) n a (mod-eq-sub-div-mul x n) (div-mul-le_self x n) (mod-lt x some) refl

pub end_above : (bs : List InputSection) (a : ℕ) → AllByRecursion IsAligned bs → a ≤ layout_end a bs
end_above [] a l = omega arith
end_above (b ∷ bs) a (l, ls) =
    let up = above b.alignment a l in
    let more = end_above bs (aligned b.alignment a + size (rows_of b)) ls in
    omega arith

pub lie_blocks : (bs : List InputSection) (a low high : ℕ) → AllByRecursion IsAligned bs → Stand a bs → low ≤ a → layout_end a bs ≤ high → AllIn (LiesIn low high) bs
lie_blocks [] a low high l st lo hi = tt
lie_blocks (b ∷ bs) a low high (l, ls) (f, st) lo hi =
    let start = aligned b.alignment a in
    let up : a ≤ start = above b.alignment a l in
    let more : start + size (rows_of b) ≤ layout_end (start + size (rows_of b)) bs = end_above bs (start + size (rows_of b)) ls in
    (lie_follow b.mapped start low high f (omega arith) (omega arith), lie_blocks bs (start + size (rows_of b)) low high ls st (omega arith) hi)

module _ (bytes : Mapped → List ℕ) (m : Mem) where
  abbrev later : ℕ → InputSection → List InputSection → List ℕ
  later start b bs = flat_map bytes b.mapped ++ contents bytes (start + size (rows_of b)) bs

  -- after the zeros before a section
  behind_zeros : (a start : ℕ) (rest : List ℕ) → a ≤ start → HasBytes m a (zeros (start - a) ++ rest) → HasBytes m start rest
  behind_zeros a start rest up h =
      let long : length (zeros (start - a)) ≡ start - a = length-replicate {A = ℕ} (start - a) 0 in
      let there : a + length (zeros (start - a)) ≡ start = omega arith in
      subst (λ x. HasBytes m x rest) there (bytes_behind m a (zeros (start - a)) rest h)

  pub held_blocks : (bs : List InputSection) (a : ℕ) → AllIn (Sized bytes) bs → AllByRecursion IsAligned bs → Stand a bs → HasBytes m a (contents bytes a bs) → AllIn (λ s. HasBytes m s.row.address (bytes s)) bs
  held_blocks [] a z l st h = tt
  held_blocks (b ∷ bs) a (z, zs) (l, ls) (f, st) h =
      let start = aligned b.alignment a in
      let here = held_follow bytes m b.mapped start (contents bytes (start + size (rows_of b)) bs) z f (behind_zeros a start (later start b bs) (above b.alignment a l) h) in
      (here.0, held_blocks bs (start + size (rows_of b)) zs ls st here.1)

  -- where no row lies there is zero
  pub zero_blocks : (bs : List InputSection) (a x : ℕ) → AllIn (Sized bytes) bs → AllByRecursion IsAligned bs → Stand a bs → HasBytes m a (contents bytes a bs) → AllIn (Misses x) bs → a ≤ x → x < layout_end a bs → m.byte x ≡ 0
  zero_blocks [] a x z l st h n lo hi = absurd (omega arith)
  zero_blocks (b ∷ bs) a x (z, zs) (l, ls) (f, st) h (n, ns) lo hi =
      let start = aligned b.alignment a in
      let up : a ≤ start = above b.alignment a l in
      let here = held_follow bytes m b.mapped start (contents bytes (start + size (rows_of b)) bs) z f (behind_zeros a start (later start b bs) up h) in
      elim (cases_lt x start) [
        | inl low ↦ byte_zero m (start - a) a x (bytes_front m a (zeros (start - a)) (later start b bs) h) lo (omega arith)
        | inr high ↦ elim (cases_lt x (start + size (rows_of b))) [
          | inl inside ↦ absurd (none_follow b.mapped start x n f high inside)
          | inr past ↦ zero_blocks bs (start + size (rows_of b)) x zs ls st here.1 ns past hi
        ]
      ]

-- a section that begins at an even address wherever it stands
abbrev pub BeginsEven : InputSection → Type 0
BeginsEven b = b.alignment % 2 ≡ 0

-- an address has a zero on it and one after it, from a start on and before an end
pub record IsBlank (m : Mem) (low high x : ℕ) : Type 0 where
  pub starts : low ≤ x
  pub room : x + 1 < high
  pub first : m.byte x ≡ 0
  pub second : m.byte (x + 1) ≡ 0

below_even : (x stop : ℕ) → x % 2 ≡ 0 → stop % 2 ≡ 0 → x < stop → x + 1 < stop
below_even x stop e f less = omega arith

-- in a gap before a section of code there are zeros
pub gap_blank : (bytes : Mapped → List ℕ) (m : Mem) (bs : List InputSection) (a x : ℕ) → AllIn (Sized bytes) bs → AllByRecursion IsAligned bs → AllByRecursion BeginsEven bs → Stand a bs → HasBytes m a (contents bytes a bs) → x % 2 ≡ 0 → list_any (λ (gap : Region). is_in gap x) (gaps_of a bs) ≡ true → IsBlank m a (layout_end a bs) x
gap_blank bytes m [] a x z l v st h even e = absurd (cc)
gap_blank bytes m (b ∷ bs) a x (z, zs) (l, ls) (v, vs) (f, st) h even e =
    go (nat_lt a start) e (gap_blank bytes m bs next x zs ls vs st (held_follow bytes m b.mapped start (contents bytes next bs) z f (behind_zeros bytes m a start (later bytes m start b bs) up h)).1 even)
  where
    start : ℕ
    start = aligned b.alignment a

    next : ℕ
    next = start + size (rows_of b)

    up : a ≤ start
    up = above b.alignment a l

    ends : next ≤ layout_end next bs
    ends = end_above bs next ls

    test : Region → Bool
    test gap = is_in gap x

    before : is_within a start x ≡ true → IsBlank m a (layout_end next bs) x
    before inside =
        let parts = within_parts a start x inside in
        let room : x + 1 < start = below_even x start even (aligned_even b.alignment a v) parts.1 in
        let gap = bytes_front m a (zeros (start - a)) (later bytes m start b bs) h in
        record {
          starts = parts.0;
          room = omega (arith, ends);
          first = byte_zero m (start - a) a x gap parts.0 (omega arith);
          second = byte_zero m (start - a) a (x + 1) gap (omega arith) (omega arith);
        }

    onward : IsBlank m next (layout_end next bs) x → IsBlank m a (layout_end next bs) x
    onward k = record { starts = (let s = k.starts in omega (arith, up)); room = k.room; first = k.first; second = k.second }

    go : (t : Bool) → list_any test (if t then record { start = a; end = start } ∷ gaps_of next bs else gaps_of next bs) ≡ true → (list_any test (gaps_of next bs) ≡ true → IsBlank m next (layout_end next bs) x) → IsBlank m a (layout_end next bs) x
    go true e ih = elim (or_cases (is_within a start x) (list_any test (gaps_of next bs)) e) [ inl inside ↦ before inside | inr more ↦ onward (ih more) ]
    go false e ih = onward (ih e)

pub length_blocks : (bytes : Mapped → List ℕ) (bs : List InputSection) (a : ℕ) → AllIn (Sized bytes) bs → AllByRecursion IsAligned bs → a + length (contents bytes a bs) ≡ layout_end a bs
length_blocks bytes [] a z l = omega arith
length_blocks bytes (b ∷ bs) a (z, zs) (l, ls) =
    let start = aligned b.alignment a in
    let up : a ≤ start = above b.alignment a l in
    let next = start + size (rows_of b) in
    let rest : List ℕ = contents bytes next bs in
    let more : next + length rest ≡ layout_end next bs = length_blocks bytes bs next zs ls in
    let one : length (zeros (start - a)) ≡ start - a = length-replicate {A = ℕ} (start - a) 0 in
    let two : length (flat_map bytes b.mapped) ≡ size (rows_of b) = length_follow bytes b.mapped z in
    let three : length (zeros (start - a) ++ (flat_map bytes b.mapped ++ rest)) ≡ length (zeros (start - a)) + length (flat_map bytes b.mapped ++ rest) = length-append (zeros (start - a)) (flat_map bytes b.mapped ++ rest) in
    let four : length (flat_map bytes b.mapped ++ rest) ≡ length (flat_map bytes b.mapped) + length rest = length-append (flat_map bytes b.mapped) rest in
    let whole : a + length (zeros (start - a) ++ (flat_map bytes b.mapped ++ rest)) ≡ layout_end next bs = omega arith in
    whole
