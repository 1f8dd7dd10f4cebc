-- How a walk goes on: by one more mark, or by one more section whose references are all marked.

use Rattle.std.proofs.Common.{◌≡◌, inl, inr, ℕ, zero, suc, ◌+◌, ◌≤◌, ◌<◌, Bool, true, false, ◌&&◌, ◌||◌, List, [], ◌∷◌, ◌++◌, length, map, take, refl, ap, sym, subst, ◌∙◌, arith, Some}
use Rattle.std.specs.Prelude.{◌==◌}
use Rattle.std.specs.List.{list_any, slice_get}
use Rattle.std.proofs.lemmas.List.{take_all}
use Rattle.std.proofs.lemmas.Option.{slice_get_within}
use Rattle.std.proofs.lemmas.Bool.{and_from, and_parts, eqb-true, or_cases, or_left, or_right, true≢false}
use Rattle.std.proofs.Math.Bool.{or-false}
use Rattle.std.proofs.lemmas.List.Folds.{list_any-append}
use Rattle.rv_map_laws.specs.declared.map.SectionId.{SectionId}
use Rattle.rv_object_types.specs.declared.place.FileIndex.{FileIndex}
use Rattle.rv_object_types.specs.declared.place.Place.{Place}
use Rattle.rv_object_types.specs.declared.place.SectionIndex.{SectionIndex}
use Rattle.rv_object_types.specs.Places.{place_of}
use Rattle.rv_object_laws.specs.Object.{Relocation, Object}
use Rattle.rv_link_laws.specs.Collects.{graph_of, entry_place, lies_in, refers}
use Rattle.rv_collect_laws.specs.Graph.{is_same, is_one_of, Graph, Has, IsClosed, IsLeastClosed, Marking, Unmarked, Begins, Follows}
use Rattle.rv_collect_laws.proofs.MarksLemmas.{ends_least, marks_few}
use Rattle.rv_collect_laws.proofs.SectionsLemmas.{same_is, same_laws, in_more, in_now}
use Rattle.rv_collect.specs.declared.walk.Walk.{Walk}
use Rattle.rv_collect.specs.Drops.{id_at}
use Rattle.rv_collect.specs.Targets.{leads_in, target_in}
use Rattle.rv_collect.specs.Marks.{AreLike, mark_rows, mark_at, marked_by, is_marked}
use Rattle.rv_collect.proofs.LoadedLemmas.{IsLoaded}
use Rattle.rv_collect.proofs.RowsLemmas.{row_in, apart_right}
use Rattle.rv_collect.specs.Walk.{done_of, queued, IsWalk, IsReached, Entered, Referred, Grows, IsMarked, IsPlaceMarked, AreFollowed, AreFollowedTo, IsEnded}
use Rattle.std.proofs.lemmas.Map.Keys.{any_passes_from_place}
use Rattle.rv_list_laws.proofs.NumbersLemmas.{eq_suc}
use Rattle.rv_list_laws.proofs.TruthLemmas.{and_false}
use Rattle.rv_list_laws.proofs.TakeDropLemmas.{take_next}

-- ---- the queue

pub done_push : (done : List SectionId) (qs : List (FileIndex × SectionIndex)) (q : FileIndex × SectionIndex) → done_of done (qs ++ q ∷ []) ≡ id_at q.0.0 q.1.0 ∷ done_of done qs
done_push done [] q = refl
done_push done (x ∷ qs) q = done_push (id_at x.0.0 x.1.0 ∷ done) qs q

done_long : (done : List SectionId) (qs : List (FileIndex × SectionIndex)) → length (done_of done qs) ≡ length qs + length done
done_long done [] = omega arith
done_long done (q ∷ qs) = done_long (id_at q.0.0 q.1.0 ∷ done) qs ∙ (let e : length qs + suc (length done) ≡ suc (length qs) + length done = omega arith in e)

-- a walk's queue is no longer than the sections
pub queue_few : (os : List Object) (qs : List (FileIndex × SectionIndex)) → Marking (graph_of os) (done_of [] qs) → length qs ≤ length (Graph.sections (graph_of os))
queue_few os qs m =
    let few = marks_few (graph_of os) (done_of [] qs) m in
    let long = done_long [] qs in
    omega (arith, few, long)

-- ---- one more mark

pub more_marked : (os : List Object) (w : Walk) (t : SectionId) → IsWalk os w → IsReached os w t → Has (graph_of os) t → is_one_of (queued w) t ≡ false → Marking (graph_of os) (t ∷ queued w)
more_marked os w t walk (Entered begins) has new = Begins (queued w) t walk.marking has new begins
more_marked os w t walk (Referred s marked refers) has new = Follows (queued w) s t walk.marking (sym (walk.same s) ∙ marked) has new refers

-- ---- growing

pub grows_on : (a b c : Walk) → Grows a b → Grows b c → Grows a c
grows_on a b c f g = record {
  more = f.more ++ g.more;
  queue = g.queue ∙ ap (λ l. l ++ g.more) f.queue ∙ appended a.queue.items f.more g.more;
  marks = λ s h. g.marks s (f.marks s h);
}
  where
    appended : (xs ys zs : List (FileIndex × SectionIndex)) → (xs ++ ys) ++ zs ≡ xs ++ (ys ++ zs)
    appended [] ys zs = refl
    appended (x ∷ xs) ys zs = ap (λ l. x ∷ l) (appended xs ys zs)

pub still_reached : (os : List Object) (a b : Walk) (t : SectionId) → Grows a b → IsReached os a t → IsReached os b t
still_reached os a b t g (Entered begins) = Entered begins
still_reached os a b t g (Referred s marked refers) = Referred s (g.marks s marked) refers

-- ---- the end

-- where nothing is left to mark, the marked sections are the least closed set
pub ends_closed : (os : List Object) (w : Walk) → IsEnded os w → IsLeastClosed (graph_of os) (is_marked w.marks)
ends_closed os w e =
    let same : (s : SectionId) → is_marked w.marks s ≡ is_one_of (queued w) s = e.walk.same in
    let closed : IsClosed (graph_of os) (is_one_of (queued w)) = record {
      first = λ s has begins. sym (same s) ∙ e.begun s begins has;
      further = λ s t marked has refers. sym (same t) ∙ e.followed s (same s ∙ marked) t refers has;
    } in
    subst (IsLeastClosed (graph_of os)) (λ i s. sym (same s) i) (ends_least (graph_of os) (queued w) e.walk.marking closed)

-- ---- a mark is made

-- the marks with one more, of sections by their numbers
more_by : (old new : ℕ → ℕ → Bool) (file index : ℕ) → ((f i : ℕ) → new f i ≡ (((f == file) && (i == index)) || old f i))
    → (f i : ℕ) → marked_by new f i ≡ (((f == suc file) && (i == suc index)) || marked_by old f i)
more_by old new file index more zero i = sym (ap (λ b. (b && (i == suc index)) || false) (apart_right file))
more_by old new file index more (suc f) zero = sym (ap (λ b. ((suc f == suc file) && b) || false) (apart_right index) ∙ ap (λ b. b || false) (and_false (suc f == suc file)))
more_by old new file index more (suc f) (suc i) =
    more f i ∙ sym (ap (λ b. (b && (suc i == suc index)) || old f i) (eq_suc f file) ∙ ap (λ b. ((f == file) && b) || old f i) (eq_suc i index))

module _ (os : List Object) (old new : Walk) (file : FileIndex) (index : SectionIndex) where
  -- one more section is marked and queued
  pub record IsMore : Type 0 where
    pub walk : IsWalk os old
    pub reached : IsReached os old (id_at file.0 index.0)
    pub has : Has (graph_of os) (id_at file.0 index.0)
    pub unmarked : mark_at old.marks file.0 index.0 ≡ false
    pub marks : (f i : ℕ) → mark_at new.marks f i ≡ (((f == file.0) && (i == index.0)) || mark_at old.marks f i)
    pub like : map length (mark_rows new.marks) ≡ map length (mark_rows old.marks)
    pub queue : new.queue.items ≡ old.queue.items ++ (file, index) ∷ []

  module _ (m : IsMore) where
    more_queued : queued new ≡ id_at file.0 index.0 ∷ queued old
    more_queued = ap (done_of []) m.queue ∙ done_push [] old.queue.items (file, index)

    more_marks : (s : SectionId) → is_marked new.marks s ≡ (is_same s (id_at file.0 index.0) || is_marked old.marks s)
    more_marks s = more_by (mark_at old.marks) (mark_at new.marks) file.0 index.0 m.marks s.file s.section

    more_marking : Marking (graph_of os) (queued new)
    more_marking =
        subst (Marking (graph_of os)) (sym more_queued)
        (more_marked os old (id_at file.0 index.0) m.walk m.reached m.has (sym (m.walk.same (id_at file.0 index.0)) ∙ m.unmarked))

    pub more_walk : IsWalk os new
    more_walk = record {
      marking = more_marking;
      same = λ s. more_marks s ∙ ap (λ b. is_same s (id_at file.0 index.0) || b) (m.walk.same s) ∙ sym (ap (λ l. is_one_of l s) more_queued);
      like = m.like ∙ m.walk.like;
      few = queue_few os new.queue.items more_marking;
      has = λ s marked. elim (or_cases (is_same s (id_at file.0 index.0)) (is_marked old.marks s) (sym (more_marks s) ∙ marked)) [
        | inl same ↦ subst (Has (graph_of os)) (sym (same_is s (id_at file.0 index.0) same)) m.has
        | inr before ↦ m.walk.has s before
      ];
    }

    pub more_grows : Grows old new
    more_grows = record {
      more = (file, index) ∷ [];
      queue = m.queue;
      marks = λ s h. more_marks s ∙ or_right (is_same s (id_at file.0 index.0)) (is_marked old.marks s) h;
    }

    pub more_is : is_marked new.marks (id_at file.0 index.0) ≡ true
    more_is = more_marks (id_at file.0 index.0) ∙ or_left (is_same (id_at file.0 index.0) (id_at file.0 index.0)) (is_marked old.marks (id_at file.0 index.0)) (same_laws.refl (id_at file.0 index.0))

-- a section with an address has a mark
pub has_mark : (os : List Object) (rows : List (List Bool)) (file index : ℕ) → map length rows ≡ map (λ o. length o.sections) os → IsLoaded os file index → index < length (row_in rows file)
has_mark os rows file index like l = omega (arith, row_long rows os file l.object like l.at, slice_get_within l.object.sections index l.section l.there)
  where
    row_long : (rows : List (List Bool)) (os : List Object) (file : ℕ) (o : Object) → map length rows ≡ map (λ o. length o.sections) os → slice_get os file ≡ Some o → length (row_in rows file) ≡ length o.sections
    row_long [] [] file o e at = absurd (cc)
    row_long [] (x ∷ os) file o e at = absurd (cc)
    row_long (r ∷ rs) [] file o e at = absurd (cc)
    row_long (r ∷ rs) (x ∷ os) zero o e at =
        let same : x ≡ o = cc in
        let long : length r ≡ length x.sections = cc in
        long ∙ ap (λ z. length z.sections) same
    row_long (r ∷ rs) (x ∷ os) (suc file) o e at = row_long rs os file o (let rest : map length rs ≡ map (λ o. length o.sections) os = cc in rest) at

-- ---- nothing is marked

pub none_walk : (os : List Object) (w : Walk) → w.queue.items ≡ [] → ((f i : ℕ) → mark_at w.marks f i ≡ false) → AreLike os w.marks → IsWalk os w
none_walk os w empty none like = record {
  marking = subst (λ l. Marking (graph_of os) (done_of [] l)) (sym empty) Unmarked;
  same = λ s. none_by (mark_at w.marks) none s.file s.section ∙ sym (ap (λ l. is_one_of (done_of [] l) s) empty);
  like = like;
  few = subst (λ l. length l ≤ length (Graph.sections (graph_of os))) (sym empty) (omega arith);
  has = λ s marked. absurd (true≢false (sym marked ∙ none_by (mark_at w.marks) none s.file s.section));
}
  where
    none_by : (marks : ℕ → ℕ → Bool) → ((f i : ℕ) → marks f i ≡ false) → (f i : ℕ) → marked_by marks f i ≡ false
    none_by marks none zero i = refl
    none_by marks none (suc f) zero = refl
    none_by marks none (suc f) (suc i) = none f i

-- ---- the section that is next

done_more : (done : List SectionId) (qs : List (FileIndex × SectionIndex)) (s : SectionId) → is_one_of done s ≡ true → is_one_of (done_of done qs) s ≡ true
done_more done [] s h = h
done_more done (q ∷ qs) s h = done_more (id_at q.0.0 q.1.0 ∷ done) qs s (in_more (id_at q.0.0 q.1.0) s done h)

queued_at : (done : List SectionId) (qs : List (FileIndex × SectionIndex)) (n : ℕ) (q : FileIndex × SectionIndex) → slice_get qs n ≡ Some q → is_one_of (done_of done qs) (id_at q.0.0 q.1.0) ≡ true
queued_at done [] n q at = absurd (cc)
queued_at done (x ∷ qs) zero q at =
    let same : x ≡ q = cc in
    subst (λ (y : FileIndex × SectionIndex). is_one_of (done_of (id_at x.0.0 x.1.0 ∷ done) qs) (id_at y.0.0 y.1.0) ≡ true) same (done_more (id_at x.0.0 x.1.0 ∷ done) qs (id_at x.0.0 x.1.0) (in_now (id_at x.0.0 x.1.0) done))
queued_at done (x ∷ qs) (suc n) q at = queued_at (id_at x.0.0 x.1.0 ∷ done) qs n q at

-- it is marked, and so one of the sections
pub next_marked : (os : List Object) (w : Walk) (n : ℕ) (q : FileIndex × SectionIndex) → IsWalk os w → slice_get w.queue.items n ≡ Some q → is_marked w.marks (id_at q.0.0 q.1.0) ≡ true
next_marked os w n q walk at = walk.same (id_at q.0.0 q.1.0) ∙ queued_at [] w.queue.items n q at

-- ---- one more is followed

pub still_marked : (os : List Object) (a b : Walk) (t : SectionId) → Grows a b → IsMarked os a t → IsMarked os b t
still_marked os a b t g h = λ has. g.marks t (h has)

next : (n : ℕ) → suc n + 1 ≡ suc (n + 1)
next n = omega arith

take_one : (qs more : List (FileIndex × SectionIndex)) (n : ℕ) (q : FileIndex × SectionIndex) → slice_get qs n ≡ Some q → take (n + 1) (qs ++ more) ≡ take n qs ++ q ∷ []
take_one [] more n q at = absurd (cc)
take_one (x ∷ qs) more zero q at =
    let same : x ≡ q = cc in
    ap (λ (y : FileIndex × SectionIndex). y ∷ []) same
take_one (x ∷ qs) more (suc n) q at = ap (λ k. take k (x ∷ (qs ++ more))) (next n) ∙ ap (λ l. x ∷ l) (take_one qs more n q at)

pub followed_on : (os : List Object) (a b : Walk) (n : ℕ) (q : FileIndex × SectionIndex) → Grows a b → slice_get a.queue.items n ≡ Some q → AreFollowedTo os a n → AreFollowed os b (id_at q.0.0 q.1.0) → AreFollowedTo os b (n + 1)
followed_on os a b n q g at before now =
    let here : take (n + 1) b.queue.items ≡ take n a.queue.items ++ q ∷ [] = ap (take (n + 1)) g.queue ∙ take_one a.queue.items g.more n q at in
    let all : done_of [] (take (n + 1) b.queue.items) ≡ id_at q.0.0 q.1.0 ∷ done_of [] (take n a.queue.items) = ap (done_of []) here ∙ done_push [] (take n a.queue.items) q in
    λ s one t leads. elim (or_cases (is_same s (id_at q.0.0 q.1.0)) (is_one_of (done_of [] (take n a.queue.items)) s) (sym (ap (λ l. is_one_of l s) all) ∙ one)) [
      | inl same ↦ now t (subst (λ z. refers os z t ≡ true) (same_is s (id_at q.0.0 q.1.0) same) leads)
      | inr earlier ↦ still_marked os a b t g (before s earlier t leads)
    ]

pub all_followed : (os : List Object) (w : Walk) (n : ℕ) → IsWalk os w → IsPlaceMarked os w (entry_place os) → AreFollowedTo os w n → length w.queue.items ≤ n → IsEnded os w
all_followed os w n walk begun followed past = record {
  walk = walk;
  begun = begun;
  followed = λ s marked.
      followed s (ap (λ l. is_one_of (done_of [] l) s) (take_all n w.queue.items past) ∙ sym (walk.same s) ∙ marked);
}

-- ---- places

-- the section of a place that the code finds
pub place_lies : (p : Place) → lies_in (id_at p.file.0 p.section.0) (Some (place_of p)) ≡ true
place_lies p =
    let e : p.file.0 + 1 ≡ suc p.file.0 = omega arith in
    and_from (p.file.0 + 1 == suc p.file.0) (suc p.section.0 == suc p.section.0) (ap (λ n. n == suc p.file.0) e ∙ self (suc p.file.0)) (self (suc p.section.0))
  where
    self : (n : ℕ) → (n == n) ≡ true
    self n = grind arith

pub lies_one : (t : SectionId) (p : Place) → lies_in t (Some (place_of p)) ≡ true → t ≡ id_at p.file.0 p.section.0
lies_one t p h =
    let parts = and_parts (p.file.0 + 1 == t.file) (suc p.section.0 == t.section) h in
    let f : p.file.0 + 1 ≡ t.file = eqb-true (p.file.0 + 1) t.file parts.0 in
    let i : suc p.section.0 ≡ t.section = eqb-true (suc p.section.0) t.section parts.1 in
    let e : t.file ≡ suc p.file.0 = omega (arith, f) in
    λ j. record { file = e j; section = sym i j }

-- ---- the relocations so far

pub leads_one : (os : List Object) (file : ℕ) (o : Object) (t : SectionId) (rs : List Relocation) (i : ℕ) (r : Relocation) → slice_get rs i ≡ Some r → lies_in t (target_in os file o r) ≡ true
    → leads_in os file o t rs ≡ true
leads_one os file o t rs i r at h = any_passes_from_place (λ q. lies_in t (target_in os file o q)) rs i r at h

pub marked_on : (os : List Object) (a b : Walk) (file : ℕ) (o : Object) (rs : List Relocation) (n : ℕ) (r : Relocation) → Grows a b → slice_get rs n ≡ Some r
    → ((t : SectionId) → leads_in os file o t (take n rs) ≡ true → IsMarked os a t) → IsPlaceMarked os b (target_in os file o r)
    → (t : SectionId) → leads_in os file o t (take (n + 1) rs) ≡ true → IsMarked os b t
marked_on os a b file o rs n r g at before now t leads =
    let test : Relocation → Bool = λ q. lies_in t (target_in os file o q) in
    let parts : (list_any test (take n rs) || (test r || false)) ≡ true = sym (ap (list_any test) (take_next rs n r at) ∙ list_any-append test (take n rs) (r ∷ [])) ∙ leads in
    elim (or_cases (list_any test (take n rs)) (test r || false) parts) [
      | inl earlier ↦ still_marked os a b t g (before t earlier)
      | inr last ↦ now t (sym (or-false (test r)) ∙ last)
    ]
