-- The state of a snapshot, part by part.

use Rattle.std.proofs.Common.{◌≡◌, ℕ, ◌≤◌, ◌<◌, true, false, List, [], ◌∷◌, length, drop, Option, Some, None, refl, sym, ap, ◌∙◌, arith}
use Rattle.std.specs.Prelude.{nat_le, option_map, slice_index}
use Rattle.std.proofs.lemmas.Bool.Decides.{nat_tests}
use Rattle.rv_isa_laws.specs.Memory.{Mem}
use Rattle.rv_isa_laws.specs.Hart.{Hart, start}
use Rattle.rv_image_laws.specs.Image.{Image}
use Rattle.rv_image_laws.specs.Memory.{mem_of}
use Rattle.rv_states.specs.Snapshot.{words, with_pieces, hart_by, state_by, state_in}
use Rattle.rv_states.proofs.PieceLemmas.{if_true, if_false}

abbrev pub said : Hart → Mem → Option (Hart × Mem)
said h m = Some (h, m)

pub same_state : (h g : Hart) (m n : Mem) → h ≡ g → m ≡ n → said h m ≡ said g n
same_state h g m n e f = ap (λ (k : Hart). said k m) e ∙ ap (said g) f

-- no bytes
pub state_at_start : (image : Image) (input snapshot : List ℕ) → length snapshot ≡ 0 → state_in image input snapshot ≡ said (start image.entry input) (mem_of image)
state_at_start image input [] e = refl
state_at_start image input (b ∷ bytes) e = absurd (omega arith)

-- fewer than a head has
pub state_short : (image : Image) (input snapshot : List ℕ) → 0 < length snapshot → length snapshot < 296 → state_in image input snapshot ≡ None
state_short image input [] some short = absurd (omega arith)
state_short image input (b ∷ bytes) some short =
    let t : nat_le 296 (length (b ∷ bytes)) ≡ false = grind (arith, nat_tests) in
    if_false (nat_le 296 (length (b ∷ bytes))) _ _ t

pub state_long : (image : Image) (input snapshot : List ℕ) → 296 ≤ length snapshot →
    state_in image input snapshot ≡ state_by image (words 37 snapshot) (drop 296 snapshot) input
state_long image input [] long = absurd (omega arith)
state_long image input (b ∷ bytes) long =
    let t : nat_le 296 (length (b ∷ bytes)) ≡ true = grind (arith, nat_tests) in
    if_true (nat_le 296 (length (b ∷ bytes))) _ _ t

-- more was taken than there is
pub state_past : (image : Image) (numbers pieces input : List ℕ) (taken : ℕ) → taken ≡ slice_index numbers 35 → length input < taken → state_by image numbers pieces input ≡ None
state_past image numbers pieces input taken is past =
    let t : nat_le (slice_index numbers 35) (length input) ≡ false = grind (arith, nat_tests) in
    if_false (nat_le (slice_index numbers 35) (length input)) _ _ t

mapped : (hart : Hart) (o o' : Option Mem) → o ≡ o' → option_map {U = Hart × Mem} (λ (memory : Mem). (hart, memory)) o ≡ option_map {U = Hart × Mem} (λ (memory : Mem). (hart, memory)) o'
mapped hart o o' e = ap (option_map {U = Hart × Mem} (λ (memory : Mem). (hart, memory))) e

-- what the pieces come to
pub state_of_pieces : (image : Image) (numbers pieces input : List ℕ) (count : ℕ) (o : Option Mem) → slice_index numbers 35 ≤ length input → count ≡ slice_index numbers 36 →
    with_pieces count pieces (mem_of image) ≡ o →
    state_by image numbers pieces input ≡ option_map {U = Hart × Mem} (λ (memory : Mem). (hart_by numbers input, memory)) o
state_of_pieces image numbers pieces input count o within is made =
    let t : nat_le (slice_index numbers 35) (length input) ≡ true = grind (arith, nat_tests) in
    let e : with_pieces (slice_index numbers 36) pieces (mem_of image) ≡ o = ap (λ (k : ℕ). with_pieces k pieces (mem_of image)) (sym is) ∙ made in
    if_true (nat_le (slice_index numbers 35) (length input)) _ _ t ∙ mapped (hart_by numbers input) _ _ e

-- the state of a head and pieces
pub whole_state : (image : Image) (numbers pieces input bytes : List ℕ) (count taken : ℕ) (h : Hart) (m : Mem) → 296 ≤ length bytes → words 37 bytes ≡ numbers →
    drop 296 bytes ≡ pieces → slice_index numbers 35 ≡ taken → slice_index numbers 36 ≡ count → taken ≤ length input → with_pieces count pieces (mem_of image) ≡ Some m →
    hart_by numbers input ≡ h → state_in image input bytes ≡ said h m
whole_state image numbers pieces input bytes count taken h m long head rest took counted within made hart =
    state_long image input bytes long ∙ ap (λ (n : List ℕ). state_by image n (drop 296 bytes) input) head ∙ ap (λ (p : List ℕ). state_by image numbers p input) rest
    ∙ state_of_pieces image numbers pieces input count (Some m) (omega arith) (sym counted) made ∙ same_state (hart_by numbers input) h m m hart refl
