-- RAM around ascending segments: that all of it lies apart, and how much it is.

use Rattle.std.proofs.Common.{◌≡◌, ℕ, ◌+◌, ◌-◌, ◌≤◌, ◌<◌, Bool, true, false, not, ◌&&◌, nat_le, List, [], ◌∷◌, ◌++◌, length, map, append_assoc, refl, sym, ap, ◌∙◌, arith}
use Rattle.std.specs.List.{list_all, fold}
use Rattle.std.proofs.lemmas.List.{map-append}
use Rattle.std.proofs.lemmas.Bool.Decides.{nat_tests}
use Rattle.rv_isa_laws.specs.Bytes.{zeros}
use Rattle.rv_isa_laws.specs.Platform.{stack_start, stack_end, memory_limit}
use Rattle.rv_isa_laws.proofs.BytesLemmas.{zeros_long}
use Rattle.rv_image_laws.specs.Segment.{Segment, do_meet, meets_segment, meets_stack, are_apart, memory_size}
use Rattle.rv_board_laws.proofs.PlatformLemmas.{begins_at, lie_ends}
use Rattle.rv_board_laws.specs.Virt.{readable, registers, zeros_between, ram_start, ram_end, segment_end, lie_in_ram, ram_from}

-- a segment that lies behind where it may begin ends behind the end of RAM, as those before it
beyond : (from : ℕ) (s : Segment) → ram_end < from → from ≤ s.address → ram_end < segment_end s
beyond from s far at = omega (arith, far, at)

-- segments do not lie in RAM where the rest does not
lie_not : (from : ℕ) (s : Segment) (ss : List Segment) → (from ≤ s.address → lie_in_ram (segment_end s) ss ≡ false) → lie_in_ram from (s ∷ ss) ≡ false
lie_not from s ss other = by (nat_le from s.address) refl
  where
    by : (b : Bool) → nat_le from s.address ≡ b → (b && lie_in_ram (segment_end s) ss) ≡ false
    by true e = other (grind (arith, nat_tests, e))
    by false e = refl

-- segments that begin behind the end of RAM do not lie in it
pub lie_past : (from : ℕ) (ss : List Segment) → ram_end < from → lie_in_ram from ss ≡ false
lie_past from [] far = grind (arith, nat_tests, far)
lie_past from (s ∷ ss) far = lie_not from s ss (λ at. lie_past (segment_end s) ss (beyond from s far at))

-- nor does one that ends there
pub lie_beyond : (from : ℕ) (s : Segment) (ss : List Segment) → ram_end < segment_end s → lie_in_ram from (s ∷ ss) ≡ false
lie_beyond from s ss far = lie_not from s ss (λ at. lie_past (segment_end s) ss far)

none_left : (from : ℕ) → lie_in_ram from [] ≡ true → from ≤ ram_end
none_left from lie = grind (arith, nat_tests, lie)

-- what ends where another begins, or before, does not meet it
apart_from : (a n b k : ℕ) → a + n ≤ b → do_meet a n b k ≡ false
apart_from a n b k h = grind (arith, nat_tests, h)

apart_behind : (a n b k : ℕ) → b + k ≤ a → do_meet a n b k ≡ false
apart_behind a n b k h = grind (arith, nat_tests, h)

-- no segment in RAM from here on meets one that ends here
pub none_meets : (t : Segment) (from : ℕ) (ss : List Segment) → segment_end t ≤ from → lie_in_ram from ss ≡ true → list_all (λ s. not (meets_segment t s)) (ram_from from ss) ≡ true
unfolding ram_from
none_meets t from [] ends lie = rw (apart_from t.address (length t.bytes) from (length (zeros (ram_end - from))) ends) refl
none_meets t from (s ∷ ss) ends lie =
    let parts = begins_at from s ss lie in
    let at = parts.0 in
    let here : segment_end t ≤ s.address = omega (arith, ends, at) in
    let there : segment_end t ≤ segment_end s = omega (arith, here) in
    let rest = none_meets t (segment_end s) ss there parts.1 in
    rw (apart_from t.address (length t.bytes) from (length (zeros (s.address - from))) ends, apart_from t.address (length t.bytes) s.address (length s.bytes) here, rest) refl

no_stack : (s : Segment) → ram_start ≤ s.address → meets_stack s ≡ false
no_stack s at = apart_behind s.address (length s.bytes) stack_start (stack_end - stack_start) (omega (arith, at))

pub ram_apart : (from : ℕ) (ss : List Segment) → ram_start ≤ from → lie_in_ram from ss ≡ true → are_apart (ram_from from ss) ≡ true
unfolding ram_from
ram_apart from [] low lie = rw (no_stack (zeros_between from ram_end) low) refl
ram_apart from (s ∷ ss) low lie =
    let parts = begins_at from s ss lie in
    let at = parts.0 in
    let n : ℕ = length (zeros (s.address - from)) in
    let long : n ≡ s.address - from = zeros_long (s.address - from) in
    let here : from + n ≤ s.address = omega (arith, long, at) in
    let there : from + n ≤ segment_end s = omega (arith, here) in
    let own : ram_start ≤ s.address = omega (arith, low, at) in
    let far : ram_start ≤ segment_end s = omega (arith, own) in
    let same : segment_end s ≤ segment_end s = omega arith in
    rw (
      no_stack (zeros_between from s.address) low,
      apart_from from n s.address (length s.bytes) here,
      none_meets (zeros_between from s.address) (segment_end s) ss there parts.1,
      no_stack s own,
      none_meets s (segment_end s) ss same parts.1,
      ram_apart (segment_end s) ss far parts.1,
    ) refl

-- sizes in a row
sizes_more : (n : ℕ) (ss : List Segment) → fold (λ (a : ℕ) (s : Segment). a + length s.bytes) n ss ≡ n + memory_size ss
sizes_more n [] = omega arith
sizes_more n (s ∷ ss) =
    let regroup : (n + length s.bytes) + memory_size ss ≡ n + ((0 + length s.bytes) + memory_size ss) = omega arith in
    sizes_more (n + length s.bytes) ss ∙ regroup ∙ ap (λ k. n + k) (sym (sizes_more (0 + length s.bytes) ss))

size_next : (s : Segment) (ss : List Segment) → memory_size (s ∷ ss) ≡ length s.bytes + memory_size ss
size_next s ss =
    let plain : (0 + length s.bytes) + memory_size ss ≡ length s.bytes + memory_size ss = omega arith in
    sizes_more (0 + length s.bytes) ss ∙ plain

-- the whole is RAM from here on
pub ram_size : (from : ℕ) (ss : List Segment) → lie_in_ram from ss ≡ true → from + memory_size (ram_from from ss) ≡ ram_end
unfolding ram_from
ram_size from [] lie =
    let at = none_left from lie in
    let long = zeros_long (ram_end - from) in
    omega (arith, long, at)
ram_size from (s ∷ ss) lie =
    let parts = begins_at from s ss lie in
    let at = parts.0 in
    let long = zeros_long (s.address - from) in
    let rest = ram_size (segment_end s) ss parts.1 in
    let sum : memory_size (ram_from from (s ∷ ss)) ≡ length (zeros (s.address - from)) + (length s.bytes + memory_size (ram_from (segment_end s) ss)) =
    size_next (zeros_between from s.address) (s ∷ ram_from (segment_end s) ss) ∙ ap (λ k. length (zeros (s.address - from)) + k) (size_next s (ram_from (segment_end s) ss)) in
    omega (arith, long, at, rest, sum)

-- the registers meet neither RAM nor the stack, nor one another
pub board_apart : (ss : List Segment) → lie_in_ram ram_start ss ≡ true → are_apart (registers ++ ram_from ram_start ss) ≡ true
board_apart ss lie =
    rw (
      none_meets (readable 0x1000_0001 (0 ∷ [])) ram_start ss (omega arith) lie,
      none_meets (readable 0x1000_0003 (0 ∷ 8 ∷ 0x61 ∷ [])) ram_start ss (omega arith) lie,
      none_meets (readable 0x1000_0007 (0 ∷ [])) ram_start ss (omega arith) lie,
      ram_apart ram_start ss (omega arith) lie,
    ) refl

pub board_size : (ss : List Segment) → lie_in_ram ram_start ss ≡ true → memory_size (registers ++ ram_from ram_start ss) ≤ memory_limit
board_size ss lie =
    let ram = ram_size ram_start ss lie in
    let sum : memory_size (registers ++ ram_from ram_start ss) ≡ 5 + memory_size (ram_from ram_start ss) = sizes_more 5 (ram_from ram_start ss) in
    omega (arith, ram, sum)

-- one segment more, with the zeros before it
pub put_more : {A : Type 0} (f : A → Segment) (xs ys zs rest : List A) (z s : A) (from : ℕ) → ys ≡ xs ++ (z ∷ []) → zs ≡ ys ++ (s ∷ []) → f z ≡ zeros_between from (f s).address →
    map f zs ++ ram_from (segment_end (f s)) (map f rest) ≡ map f xs ++ ram_from from (map f (s ∷ rest))
unfolding ram_from
put_more f xs ys zs rest z s from one two is =
    let put : map f zs ≡ map f xs ++ (f z ∷ f s ∷ []) =
    ap (map f) (two ∙ ap (λ l. l ++ (s ∷ [])) one ∙ append_assoc xs (z ∷ []) (s ∷ [])) ∙ map-append f xs (z ∷ s ∷ []) in
    ap (λ l. l ++ ram_from (segment_end (f s)) (map f rest)) put
    ∙ append_assoc (map f xs) (f z ∷ f s ∷ []) (ram_from (segment_end (f s)) (map f rest))
    ∙ ap (λ (t : Segment). map f xs ++ (t ∷ f s ∷ ram_from (segment_end (f s)) (map f rest))) is

-- the last zeros
pub put_last : {A : Type 0} (f : A → Segment) (xs ys : List A) (z : A) (from : ℕ) → ys ≡ xs ++ (z ∷ []) → f z ≡ zeros_between from ram_end → map f ys ≡ map f xs ++ ram_from from []
unfolding ram_from
put_last f xs ys z from one is = ap (map f) one ∙ map-append f xs (z ∷ []) ∙ ap (λ (t : Segment). map f xs ++ (t ∷ [])) is

-- of a segment and the rest: it begins here or behind, it ends in RAM, and the rest ascends from there
pub lie_parts : (from : ℕ) (s : Segment) (ss : List Segment) → lie_in_ram from (s ∷ ss) ≡ true → (from ≤ s.address) × (segment_end s ≤ ram_end) × (lie_in_ram (segment_end s) ss ≡ true)
lie_parts from s ss lie =
    let parts = begins_at from s ss lie in
    (parts.0, lie_ends (segment_end s) ss parts.1, parts.1)
