-- The segments of an image with the stack as one more segment: they lie apart, and make the memory of the image.

use Rattle.std.proofs.Common.{◌≡◌, ℕ, zero, suc, ◌+◌, ◌-◌, ◌≤◌, ◌<◌, nat_le, nat_lt, Bool, true, false, not, ◌&&◌, ◌||◌, cond, inl, inr, MatchOption, List, [], ◌∷◌, ◌++◌, Option, Some, None, length, get_or, slice_get, refl, ap, sym, subst, ◌∙◌, arith}
use Rattle.std.specs.List.{list_all}
use Rattle.std.proofs.lemmas.Bool.{and_parts, cases_lt}
use Rattle.std.proofs.lemmas.Bool.Decides.{nat_tests}
use Rattle.std.proofs.Math.Path.{fun_ext}
use Rattle.rv_list_laws.proofs.TruthLemmas.{or_false_back}
use Rattle.rv_isa_laws.specs.Memory.{Mem, Right, Read, Write, Execute}
use Rattle.rv_image_laws.specs.Segment.{Segment, meets_segment, meets_stack, are_apart}
use Rattle.rv_isa_laws.specs.Platform.{stack_start, stack_end}
use Rattle.rv_image_laws.specs.Image.{Image}
use Rattle.rv_image_laws.specs.Memory.{lies_in, segment_at, byte_in, right_in, gives_right, in_stack, mem_of}
use Rattle.rv_memory.specs.Flat.{memory_of, AreDisjoint}
use Rattle.rv_memory.specs.Unmade.{lies_unmade, in_unmade, with_unmade, IsFree, IsTop, HasTop}
use Rattle.rv_memory.proofs.FlatLemmas.{range-holds, same-memory}

-- a segment of zeros in the stack's place, from one of its addresses on
pub record IsStack (s : Segment) : Type 0 where
  pub low : stack_start ≤ s.address
  pub high : s.address < stack_end
  pub ends : s.address + length s.bytes ≡ stack_end
  pub zeros : (k : ℕ) → get_or s.bytes k 0 ≡ 0
  pub flags : s.flags ≡ 6

-- segments that share an address meet
meeting : (s t : Segment) (x : ℕ) → lies_in s x ≡ true → lies_in t x ≡ true → meets_segment s t ≡ true
meeting s t x h k = grind (arith, nat_tests)

meeting-stack : (s : Segment) (x : ℕ) → lies_in s x ≡ true → stack_start ≤ x → x < stack_end → meets_stack s ≡ true
meeting-stack s x h low high = grind (arith, nat_tests)

stack-range : (stack : Segment) (x : ℕ) → IsStack stack → lies_in stack x ≡ true → (stack_start ≤ x) × (x < stack_end)
stack-range stack x is h = let a = is.low in let b = is.ends in grind (arith, nat_tests)

never-both : (b : Bool) → not b ≡ true → b ≡ true → ⊥
never-both true e f = absurd (cc)
never-both false e f = absurd (cc)

-- what are_apart says of its first segment
stack-apart : (s : Segment) (ss : List Segment) → are_apart (s ∷ ss) ≡ true → not (meets_stack s) ≡ true
stack-apart s ss h = grind (arith, nat_tests)

rest-apart : (s : Segment) (ss : List Segment) → are_apart (s ∷ ss) ≡ true → are_apart ss ≡ true
rest-apart s ss h = grind (arith, nat_tests)

others-apart : (s : Segment) (ss : List Segment) → are_apart (s ∷ ss) ≡ true → list_all (λ t. not (meets_segment s t)) ss ≡ true
others-apart s ss h = grind (arith, nat_tests)

-- no later segment shares an address with the first
first-apart : (s stack t : Segment) (ss : List Segment) (j x : ℕ) → IsStack stack → list_all (λ u. not (meets_segment s u)) ss ≡ true →
    not (meets_stack s) ≡ true → slice_get (ss ++ (stack ∷ [])) j ≡ Some t → lies_in s x ≡ true → lies_in t x ≡ true → ⊥
first-apart s stack t [] zero x is all away at h k =
    let same : t ≡ stack = cc in
    let held : lies_in stack x ≡ true = subst (λ (u : Segment). lies_in u x ≡ true) same k in
    let range = stack-range stack x is held in
    never-both (meets_stack s) away (meeting-stack s x h range.0 range.1)
first-apart s stack t [] (suc j) x is all away at h k = cc
first-apart s stack t (u ∷ ss) zero x is all away at h k =
    let same : t ≡ u = cc in
    let held : lies_in u x ≡ true = subst (λ (v : Segment). lies_in v x ≡ true) same k in
    let both = and_parts (not (meets_segment s u)) (list_all (λ v. not (meets_segment s v)) ss) all in
    never-both (meets_segment s u) both.0 (meeting s u x h held)
first-apart s stack t (u ∷ ss) (suc j) x is all away at h k =
    let both = and_parts (not (meets_segment s u)) (list_all (λ v. not (meets_segment s v)) ss) all in
    first-apart s stack t ss j x is both.1 away at h k

pub disjoint-with-stack : (ss : List Segment) (stack : Segment) → IsStack stack → are_apart ss ≡ true → AreDisjoint (ss ++ (stack ∷ []))
disjoint-with-stack [] stack is apart zero zero x s t at_i at_j h k = refl
disjoint-with-stack [] stack is apart zero (suc j) x s t at_i at_j h k = cc
disjoint-with-stack [] stack is apart (suc i) j x s t at_i at_j h k = cc
disjoint-with-stack (u ∷ ss) stack is apart zero zero x s t at_i at_j h k = refl
disjoint-with-stack (u ∷ ss) stack is apart zero (suc j) x s t at_i at_j h k =
    let same : s ≡ u = cc in
    let held : lies_in u x ≡ true = subst (λ (v : Segment). lies_in v x ≡ true) same h in
    absurd (first-apart u stack t ss j x is (others-apart u ss apart) (stack-apart u ss apart) at_j held k)
disjoint-with-stack (u ∷ ss) stack is apart (suc i) zero x s t at_i at_j h k =
    let same : t ≡ u = cc in
    let held : lies_in u x ≡ true = subst (λ (v : Segment). lies_in v x ≡ true) same k in
    absurd (first-apart u stack s ss i x is (others-apart u ss apart) (stack-apart u ss apart) at_i held h)
disjoint-with-stack (u ∷ ss) stack is apart (suc i) (suc j) x s t at_i at_j h k =
    ap suc (disjoint-with-stack ss stack is (rest-apart u ss apart) i j x s t at_i at_j h k)

-- the byte and the right of an address, whether its segment is u (b) or found among the others
byte-cond : (b : Bool) (u : Segment) (o p : Option Segment) (x : ℕ) → byte_in o x ≡ byte_in p x →
    byte_in (cond b (Some u) o) x ≡ byte_in (cond b (Some u) p) x
byte-cond true u o p x e = refl
byte-cond false u o p x e = e

stack-byte : (b : Bool) (stack : Segment) (x : ℕ) → IsStack stack → byte_in (cond b (Some stack) None) x ≡ 0
stack-byte true stack x is = is.zeros (x - stack.address)
stack-byte false stack x is = refl

with-stack-byte : (ss : List Segment) (stack : Segment) (x : ℕ) → IsStack stack →
    byte_in (segment_at (ss ++ (stack ∷ [])) x) x ≡ byte_in (segment_at ss x) x
with-stack-byte [] stack x is = stack-byte (lies_in stack x) stack x is
with-stack-byte (u ∷ ss) stack x is = byte-cond (lies_in u x) u (segment_at (ss ++ (stack ∷ [])) x) (segment_at ss x) x (with-stack-byte ss stack x is)

-- outside the stack it gives no right
no-stack : (s : Segment) (x : ℕ) (r : Right) → not (meets_stack s) ≡ true → lies_in s x ≡ true → in_stack x r ≡ false
no-stack s x Execute away h = refl
no-stack s x Read away h = grind (arith, nat_tests)
no-stack s x Write away h = grind (arith, nat_tests)

in-range : (x : ℕ) → stack_start ≤ x → x < stack_end → (nat_le stack_start x && nat_lt x stack_end) ≡ true
in-range x low high = grind (arith, nat_tests)

-- where the stack is not made yet
pub or-true : (b : Bool) → (b || true) ≡ true
or-true true = refl
or-true false = refl

out-of-range : (stack : Segment) (x : ℕ) → IsStack stack → lies_in stack x ≡ false → (lies_unmade stack.address x || false) ≡ (nat_le stack_start x && nat_lt x stack_end)
out-of-range stack x is h = elim (cases_lt x stack.address) [
  | inl below ↦
      let p : nat_lt x stack.address ≡ true = grind (arith, nat_tests) in
      let q : nat_lt x stack_end ≡ true = (let e = is.high in grind (arith, nat_tests)) in
      sym (or_false_back (lies_unmade stack.address x)) ∙ ap (λ (b : Bool). nat_le stack_start x && b) (p ∙ sym q)
  | inr above ↦
      let p : nat_lt x stack.address ≡ false = grind (arith, nat_tests) in
      let q : nat_lt x stack_end ≡ false = (let e = is.ends in grind (arith, nat_tests)) in
      sym (or_false_back (lies_unmade stack.address x)) ∙ ap (λ (b : Bool). nat_le stack_start x && b) (p ∙ sym q)
]

stack-right-by : (b : Bool) (stack : Segment) (x : ℕ) (r : Right) → IsStack stack → lies_in stack x ≡ b →
    (in_unmade stack.address x r || right_in (cond b (Some stack) None) r) ≡ in_stack x r
stack-right-by true stack x Execute is h = ap (λ (f : ℕ). gives_right f Execute) is.flags
stack-right-by true stack x Read is h =
    let range = stack-range stack x is h in
    ap (λ (f : ℕ). lies_unmade stack.address x || gives_right f Read) is.flags ∙ or-true (lies_unmade stack.address x) ∙ sym (in-range x range.0 range.1)
stack-right-by true stack x Write is h =
    let range = stack-range stack x is h in
    ap (λ (f : ℕ). lies_unmade stack.address x || gives_right f Write) is.flags ∙ or-true (lies_unmade stack.address x) ∙ sym (in-range x range.0 range.1)
stack-right-by false stack x Execute is h = refl
stack-right-by false stack x Read is h = out-of-range stack x is h
stack-right-by false stack x Write is h = out-of-range stack x is h

stack-right : (stack : Segment) (x : ℕ) (r : Right) → IsStack stack → (in_unmade stack.address x r || right_in (cond (lies_in stack x) (Some stack) None) r) ≡ in_stack x r
stack-right stack x r is = stack-right-by (lies_in stack x) stack x r is refl

unmade-stack : (a x : ℕ) (r : Right) → a < stack_end → in_stack x r ≡ false → in_unmade a x r ≡ false
unmade-stack a x Execute low h = refl
unmade-stack a x Read low h = grind (arith, nat_tests)
unmade-stack a x Write low h = grind (arith, nat_tests)

right-cond : (b : Bool) (u : Segment) (o p : Option Segment) (a x : ℕ) (r : Right) → a < stack_end → (b ≡ true → in_stack x r ≡ false) →
    (in_unmade a x r || right_in o r) ≡ (right_in p r || in_stack x r) → (in_unmade a x r || right_in (cond b (Some u) o) r) ≡ (right_in (cond b (Some u) p) r || in_stack x r)
right-cond true u o p a x r low away e =
    let h : in_stack x r ≡ false = away refl in
    ap (λ (b : Bool). b || gives_right u.flags r) (unmade-stack a x r low h) ∙ or_false_back (gives_right u.flags r) ∙ ap (λ (b : Bool). gives_right u.flags r || b) (sym h)
right-cond false u o p a x r low away e = e

with-stack-right : (ss : List Segment) (stack : Segment) (x : ℕ) (r : Right) → IsStack stack → are_apart ss ≡ true →
    (in_unmade stack.address x r || right_in (segment_at (ss ++ (stack ∷ [])) x) r) ≡ (right_in (segment_at ss x) r || in_stack x r)
with-stack-right [] stack x r is apart = stack-right stack x r is
with-stack-right (u ∷ ss) stack x r is apart =
    right-cond (lies_in u x) u (segment_at (ss ++ (stack ∷ [])) x) (segment_at ss x) stack.address x r is.high (λ h. no-stack u x r (stack-apart u ss apart) h)
    (with-stack-right ss stack x r is (rest-apart u ss apart))

pub memory-with-stack : (image : Image) (stack : Segment) → IsStack stack → are_apart image.segments ≡ true →
    with_unmade stack.address (memory_of (image.segments ++ (stack ∷ []))) ≡ mem_of image
memory-with-stack image stack is apart =
    let m : Mem = with_unmade stack.address (memory_of (image.segments ++ (stack ∷ []))) in
    let bytes : m.byte ≡ (mem_of image).byte = fun_ext (λ (x : ℕ). with-stack-byte image.segments stack x is) in
    let rights : m.has ≡ (mem_of image).has =
    fun_ext (λ (x : ℕ). fun_ext (λ (r : Right). with-stack-right image.segments stack x r is apart)) in
    same-memory m (mem_of image) bytes rights

-- in the stack there is no segment but it
not-held : (b : Bool) (s : Segment) (x : ℕ) → lies_in s x ≡ b → not (meets_stack s) ≡ true → stack_start ≤ x → x < stack_end → lies_in s x ≡ false
not-held true s x e away low high = absurd (never-both (meets_stack s) away (meeting-stack s x e low high))
not-held false s x e away low high = e

alone : (ss : List Segment) (stack : Segment) (x : ℕ) → are_apart ss ≡ true → stack_start ≤ x → x < stack_end →
    segment_at (ss ++ (stack ∷ [])) x ≡ cond (lies_in stack x) (Some stack) None
alone [] stack x apart low high = refl
alone (u ∷ ss) stack x apart low high =
    ap (λ (b : Bool). cond b (Some u) (segment_at (ss ++ (stack ∷ [])) x)) (not-held (lies_in u x) u x refl (stack-apart u ss apart) low high)
    ∙ alone ss stack x (rest-apart u ss apart) low high

pub free-below : (ss : List Segment) (stack : Segment) → IsStack stack → are_apart ss ≡ true → IsFree (ss ++ (stack ∷ [])) stack.address
free-below ss stack is apart x low below =
    let lacks : lies_in stack x ≡ false = grind (arith, nat_tests) in
    alone ss stack x apart low (omega (arith, below, is.high)) ∙ ap (λ (b : Bool). cond b (Some stack) None) lacks

pub has-top : (ss : List Segment) (stack : Segment) → IsStack stack → are_apart ss ≡ true → HasTop (ss ++ (stack ∷ [])) stack.address
has-top ss stack is apart =
    let held : lies_in stack stack.address ≡ true = range-holds stack stack.address (omega arith) (omega (arith, is.high, is.ends)) in
    let at : segment_at (ss ++ (stack ∷ [])) stack.address ≡ Some stack =
    alone ss stack stack.address apart is.low is.high ∙ ap (λ (b : Bool). cond b (Some stack) None) held in
    let top : IsTop stack.address stack = record { starts = refl; ends = is.ends; flags = is.flags } in
    subst (λ (o : Option Segment). MatchOption o ⊥ (λ s. IsTop stack.address s)) (sym at) top
