-- Pieces of segment after segment, and then of the stack, make the machine's memory.

use Rattle.std.proofs.Common.{◌≡◌, ℕ, ◌+◌, ◌≤◌, ◌<◌, Bool, true, false, ◌⊎◌, inl, inr, List, [], ◌++◌, append-nil, Option, Some, None, length, slice_get, refl, ap, sym, subst, ◌∙◌, arith}
use Rattle.std.specs.Prelude.{if◌then◌else◌}
use Rattle.std.proofs.lemmas.Bool.{cases_lt, or_cases}
use Rattle.std.proofs.lemmas.Bool.Decides.{nat_tests}
use Rattle.std.proofs.Math.Path.{fun_ext}
use Rattle.rv_isa_laws.specs.Memory.{Mem, Right, Write}
use Rattle.rv_isa_laws.specs.Platform.{stack_start, stack_end}
use Rattle.rv_image_laws.specs.Image.{Image}
use Rattle.rv_image_laws.specs.Segment.{Segment, are_apart}
use Rattle.rv_image_laws.specs.Memory.{segment_at, right_in, gives_right, in_stack, mem_of}
use Rattle.rv_memory.proofs.FlatLemmas.{holds-range, segment-held, same-memory}
use Rattle.rv_states.specs.Keeps.{Keeps}
use Rattle.rv_states.specs.Snapshot.{with_pieces}
use Rattle.rv_states.specs.Pieces.{Make, IsNearer, Add, Reach, written_size}
use Rattle.rv_states.specs.declared.pieces.Pieces.{Pieces}
use Rattle.rv_states.proofs.ImageLemmas.{stack_zero, index_of}
use Rattle.rv_states.proofs.MakeLemmas.{image_or_own}
use Rattle.rv_states.proofs.PieceLemmas.{no_pieces}

-- no pieces make the image's own memory
pub none_reach : (pieces : Pieces) (image : Image) (machine : Mem) → Keeps (mem_of image) machine → pieces.count ≡ 0 → pieces.bytes.items ≡ [] →
    Reach pieces image machine 0
none_reach pieces image machine keeps count bytes = record {
  memory = mem_of image;
  made = record {
    put = λ n rest.
        let e : pieces.count + n ≡ n = omega arith in
        ap (λ (k : ℕ). with_pieces k (pieces.bytes.items ++ rest) (mem_of image)) e ∙ ap (λ (l : List ℕ). with_pieces n (l ++ rest) (mem_of image)) bytes;
    rights = λ x r. sym (keeps.rights x r);
    bytes = λ x. inl refl;
  };
  same = λ k s x low. absurd (omega arith);
}

-- those of one more segment
all_written : (s : Segment) → gives_right s.flags Write ≡ true → written_size s ≡ length s.bytes
all_written s right = ap (λ (b : Bool). if b then length s.bytes else 0) right

pub next_reach : (old new : Pieces) (image : Image) (machine : Mem) (i : ℕ) (s : Segment) → slice_get image.segments i ≡ Some s →
    Reach old image machine i → Add old new (mem_of image) machine s.address (written_size s) → Reach new image machine (i + 1)
next_reach old new image machine i s at reach add =
    let more = add reach.memory reach.made in
    record {
      memory = more.0;
      made = more.1;
      same = λ k t x low here right held. elim (cases_lt k i) [
        | inl below ↦ more.2.before x (reach.same k t x below here right held)
        | inr above ↦
            let last : k ≡ i = omega arith in
            let is : Some t ≡ Some s = sym here ∙ ap (slice_get image.segments) last ∙ at in
            let e : t ≡ s = cc in
            let range = holds-range t x held in
            let size : written_size s ≡ length s.bytes = all_written s (subst (λ (u : Segment). gives_right u.flags Write ≡ true) e right) in
            let place : t.address ≡ s.address = ap (λ (u : Segment). u.address) e in
            let long : length t.bytes ≡ length s.bytes = ap (λ (u : Segment). length u.bytes) e in
            more.2.now x (omega arith) (omega arith)
      ];
    }

-- at the end each byte is the machine's
in_segment : (pieces : Pieces) (image : Image) (machine m : Mem) (n x : ℕ) (o : Option Segment) (reach : Reach pieces image machine n) → length image.segments ≤ n →
    segment_at image.segments x ≡ o → right_in o Write ≡ true → reach.memory.byte x ≡ machine.byte x
in_segment pieces image machine m n x None reach all is right = absurd (cc)
in_segment pieces image machine m n x (Some s) reach all is right =
    let f = index_of image.segments x s is in
    let low = f.1 in
    reach.same f.0 s x (omega arith) f.2 right (segment-held image.segments x s is)

stack_range : (x : ℕ) → in_stack x Write ≡ true → (stack_start ≤ x) × (x < stack_end)
stack_range x h = grind (arith, nat_tests)

in_the_stack : (image : Image) (machine m n : Mem) (start count x : ℕ) → are_apart image.segments ≡ true → stack_start ≤ start → start + count ≡ stack_end →
    ((y : ℕ) → stack_start ≤ y → y < start → machine.byte y ≡ 0) → (n.byte x ≡ (mem_of image).byte x) ⊎ (n.byte x ≡ machine.byte x) →
    IsNearer machine m n start count → stack_start ≤ x → x < stack_end → n.byte x ≡ machine.byte x
in_the_stack image machine m n start count x apart low ends zeros made nearer above below = elim (cases_lt x start) [
  | inl unused ↦ image_or_own (n.byte x) ((mem_of image).byte x) (machine.byte x) (stack_zero image x apart above below ∙ sym (zeros x above unused)) made
  | inr used ↦ nearer.now x used (omega arith)
]

module _ (old new : Pieces) (image : Image) (machine : Mem) (start count : ℕ) (keeps : Keeps (mem_of image) machine) (apart : are_apart image.segments ≡ true)
    (low : stack_start ≤ start) (ends : start + count ≡ stack_end) (zeros : (y : ℕ) → stack_start ≤ y → y < start → machine.byte y ≡ 0)
    (n : ℕ) (all : length image.segments ≤ n) (reach : Reach old image machine n) (m : Mem) (made : Make new (mem_of image) machine m) (nearer : IsNearer machine reach.memory m start count) where
  written : (x : ℕ) → (right_in (segment_at image.segments x) Write ≡ true) ⊎ (in_stack x Write ≡ true) → m.byte x ≡ machine.byte x
  written x (inl right) = nearer.before x (in_segment old image machine m n x (segment_at image.segments x) reach all refl right)
  written x (inr right) =
      let range = stack_range x right in
      in_the_stack image machine reach.memory m start count x apart low ends zeros (made.bytes x) nearer range.0 range.1

  byte_by : (b : Bool) (x : ℕ) → (mem_of image).has x Write ≡ b → m.byte x ≡ machine.byte x
  byte_by true x can = written x (or_cases (right_in (segment_at image.segments x) Write) (in_stack x Write) can)
  byte_by false x none = image_or_own (m.byte x) ((mem_of image).byte x) (machine.byte x) (sym (keeps.bytes x none)) (made.bytes x)

  whole : m ≡ machine
  whole =
      let bytes : m.byte ≡ machine.byte = fun_ext (λ (x : ℕ). byte_by ((mem_of image).has x Write) x refl) in
      let rights : m.has ≡ machine.has = fun_ext (λ (x : ℕ). fun_ext (λ (r : Right). made.rights x r)) in
      same-memory m machine bytes rights

  all_made : with_pieces new.count new.bytes.items (mem_of image) ≡ Some machine
  all_made =
      let e : new.count ≡ new.count + 0 = omega arith in
      ap (λ (k : ℕ). with_pieces k new.bytes.items (mem_of image)) e
      ∙ ap (λ (l : List ℕ). with_pieces (new.count + 0) l (mem_of image)) (sym (append-nil new.bytes.items))
      ∙ made.put 0 [] ∙ no_pieces [] m refl ∙ ap (λ (p : Mem). Some p) whole

pub made_whole : (old new : Pieces) (image : Image) (machine : Mem) (start count n : ℕ) → Keeps (mem_of image) machine → are_apart image.segments ≡ true →
    stack_start ≤ start → start + count ≡ stack_end → ((y : ℕ) → stack_start ≤ y → y < start → machine.byte y ≡ 0) → length image.segments ≤ n →
    Reach old image machine n → Add old new (mem_of image) machine start count → with_pieces new.count new.bytes.items (mem_of image) ≡ Some machine
made_whole old new image machine start count n keeps apart low ends zeros all reach add =
    let more = add reach.memory reach.made in
    all_made old new image machine start count keeps apart low ends zeros n all reach more.0 more.1 more.2
