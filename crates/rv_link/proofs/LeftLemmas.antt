-- What collection and relaxation leave of objects: as many, with the same names.

use Rattle.std.proofs.Common.{◌≡◌, ℕ, suc, Bool, true, false, List, [], ◌∷◌, length, map, refl, ap, sym, ◌∙◌, subst, arith}
use Rattle.std.proofs.lemmas.List.{length-map}
use Rattle.rv_map_laws.specs.declared.map.SectionId.{SectionId}
use Rattle.rv_image_laws.specs.Linked.{Linked}
use Rattle.rv_size_laws.specs.Calls.{IsText}
use Rattle.rv_size_laws.proofs.ShorteningLemmas.{greatest_closed_exists}
use Rattle.rv_collect_laws.proofs.MarksLemmas.{some_drops}
use Rattle.rv_object_types.specs.declared.object.Object.{Object as DeclaredObject}
use Rattle.rv_object_laws.specs.declared.symbol.Definition.{Definition}
use Rattle.rv_object_laws.specs.declared.symbol.Definition.TheVariants as definitions
use Rattle.rv_object_laws.specs.Object.{Symbol, Object}
use Rattle.rv_object_types.specs.View.{object_of}
use Rattle.rv_link_laws.specs.declared.bounds.Ground.{Ground}
use Rattle.rv_link_laws.specs.CallSites.{sites_of}
use Rattle.rv_link_laws.specs.Collects.{Collects, graph_of}
use Rattle.rv_link_laws.specs.IsProgramOf.{Leaves, IsProgramOf}
use Rattle.rv_link_laws.specs.Without.{without}
use Rattle.rv_link_laws.specs.Shortened.{Sizes, shortened_symbol, shortened_from, shortened, Relaxes}
use Rattle.rv_link_laws.specs.Refusals.{ArePast, AreDoubled, IsUnlinked, HasNoProgram}
use Rattle.rv_link_sites.proofs.CodeObjectsLemmas.{sites_text}
use Rattle.rv_link_laws.proofs.TextLineLemmas.{whole_text}
use Rattle.rv_object_types.proofs.WholeLemmas.{are_whole}
use Rattle.rv_link_laws.proofs.WholeLemmas.{whole_left}
use Rattle.rv_link_laws.proofs.WithoutLemmas.{without_none, as_many_objects}
use Rattle.rv_names.specs.Chosen.{seen, seen_of}
use Rattle.rv_link_laws.specs.Exports.{first_again}
use Rattle.rv_names.proofs.AlikeLemmas.{same_names, seen_left}
use Rattle.rv_fault.specs.declared.link_fault.LinkFault.{LinkFault}
use Rattle.rv_fault.specs.declared.link_fault.LinkFault.TheVariants.{Overflow, OddTarget, DanglingPcrel, AlignmentShort, Undefined, Duplicate, EntryMissing, ImageTooLarge, BadTextStart, TooManyFiles, OutOfMemory}
use Rattle.rv_link.specs.Left.{HasNoLink, IsLinkOfLeft}
use Rattle.rv_link_laws.specs.WithMap.{IsProgramWith}
use Rattle.rv_link_laws.specs.TextStart.{AreWithin}

-- ---- names

same_seen : (sizes : ℕ → Sizes) (o : Object) (s : Symbol) → seen (shortened_symbol sizes o s) ≡ seen s
same_seen sizes o s = by s.definition
  where
    by : (d : Definition) → seen (shortened_symbol sizes o (record s { definition = d })) ≡ seen (record s { definition = d })
    by definitions.Undefined = refl
    by (definitions.Absolute n) = refl
    by (definitions.InSection section offset) = refl
    by (definitions.Skipped n) = refl

seen_in : (sizes : ℕ → Sizes) (o : Object) (ss : List Symbol) → map seen (map (shortened_symbol sizes o) ss) ≡ map seen ss
seen_in sizes o [] = refl
seen_in sizes o (s ∷ ss) = ap (λ l. seen (shortened_symbol sizes o s) ∷ l) (seen_in sizes o ss) ∙ ap (λ x. x ∷ map seen ss) (same_seen sizes o s)

seen_from : (sizes : ℕ → ℕ → Sizes) (file : ℕ) (os : List Object) → seen_of (shortened_from sizes file os) ≡ seen_of os
seen_from sizes file [] = refl
seen_from sizes file (o ∷ os) =
    ap (λ l. l ∷ seen_of (shortened_from sizes (suc file) os)) (seen_in (sizes file) o o.symbols) ∙ ap (λ l. map seen o.symbols ∷ l) (seen_from sizes (suc file) os)

many_from : (sizes : ℕ → ℕ → Sizes) (file : ℕ) (os : List Object) → length (shortened_from sizes file os) ≡ length os
many_from sizes file [] = refl
many_from sizes file (o ∷ os) = let rest : length (shortened_from sizes (suc file) os) ≡ length os = many_from sizes (suc file) os in omega arith

pub record AreAlike (os left : List Object) : Type 0 where
  pub many : length left ≡ length os
  pub seen : seen_of left ≡ seen_of os

same_objects : (os left : List Object) → left ≡ os → AreAlike os left
same_objects os left e = record { many = ap length e; seen = ap seen_of e }

pub alike : (relax : Bool) (os left : List Object) → Relaxes relax os left → AreAlike os left
alike false os left h = same_objects os left h
alike true os left h = record {
  many = ap length h.2 ∙ many_from _ 1 os;
  seen = ap seen_of h.2 ∙ seen_from _ 1 os;
}

alike_leaves : (os : List Object) (relax gc : Bool) (drops : List SectionId) (left : List Object) → Leaves os relax gc drops left → AreAlike os left
alike_leaves os relax gc drops left h =
    let same = alike relax (without drops os) left h.relaxed in
    record { many = same.many ∙ as_many_objects drops os; seen = same.seen ∙ seen_left drops os }

-- ---- there is such

some_left : (relax : Bool) (os : List Object) → IsText (sites_of os) → (left : List Object) × Relaxes relax os left
some_left false os text = (os, refl)
some_left true os text =
    let found = greatest_closed_exists (sites_of os) text in
    (shortened found.0 os, (found.0, found.1, refl))

-- what collection and relaxation leave
pub record SomeLeaves (os : List Object) (relax gc : Bool) : Type 0 where
  pub drops : List SectionId
  pub left : List Object
  pub leaves : Leaves os relax gc drops left
  pub alike : AreAlike os left

pub some_leaves : (relax gc : Bool) (ds : List DeclaredObject) → SomeLeaves (map object_of ds) relax gc
some_leaves relax gc ds =
    let os = map object_of ds in
    let found = some_drops gc (graph_of os) in
    let left = some_left relax (without found.0 os) (whole_text (without found.0 os) (whole_left found.0 os (are_whole ds))) in
    let leaves : Leaves os relax gc found.0 left.0 = record { collected = found.1; relaxed = left.1 } in
    record { drops = found.0; left = left.0; leaves = leaves; alike = alike_leaves os relax gc found.0 left.0 leaves }

-- ---- what is seen of the objects is so of what is left

pub past_unlinked : (left : List Object) (bounds : Ground) (fault : LinkFault) → ArePast (length left) bounds fault → IsUnlinked left bounds fault
past_unlinked left bounds TooManyFiles h = h
past_unlinked left bounds BadTextStart h = h
past_unlinked left bounds (Duplicate name) h = absurd h
past_unlinked left bounds (Undefined name) h = absurd h
past_unlinked left bounds EntryMissing h = absurd h
past_unlinked left bounds AlignmentShort h = absurd h
past_unlinked left bounds ImageTooLarge h = absurd h
past_unlinked left bounds Overflow h = absurd h
past_unlinked left bounds OddTarget h = absurd h
past_unlinked left bounds DanglingPcrel h = absurd h
past_unlinked left bounds OutOfMemory h = tt

pub past : (ds : List DeclaredObject) (bounds : Ground) (relax gc : Bool) (fault : LinkFault) → ArePast (length ds) bounds fault → HasNoProgram (map object_of ds) bounds relax gc fault
past ds bounds relax gc fault h =
    let some = some_leaves relax gc ds in
    let same : length some.left ≡ length ds = some.alike.many ∙ length-map ds object_of in
    record { drops = some.drops; left = some.left; leaves = some.leaves; unlinked = past_unlinked some.left bounds fault (subst (λ n. ArePast n bounds fault) (sym same) h) }

doubled_unlinked : (os left : List Object) (bounds : Ground) (fault : LinkFault) → AreAlike os left → AreWithin (length os) bounds → AreDoubled os fault → IsUnlinked left bounds fault
doubled_unlinked os left bounds (Duplicate name) same w h = (subst (λ n. AreWithin n bounds) (sym same.many) w, ap (first_again []) (same_names os left same.seen) ∙ h)
doubled_unlinked os left bounds OutOfMemory same w h = tt
doubled_unlinked os left bounds TooManyFiles same w h = absurd h
doubled_unlinked os left bounds BadTextStart same w h = absurd h
doubled_unlinked os left bounds (Undefined name) same w h = absurd h
doubled_unlinked os left bounds EntryMissing same w h = absurd h
doubled_unlinked os left bounds AlignmentShort same w h = absurd h
doubled_unlinked os left bounds ImageTooLarge same w h = absurd h
doubled_unlinked os left bounds Overflow same w h = absurd h
doubled_unlinked os left bounds OddTarget same w h = absurd h
doubled_unlinked os left bounds DanglingPcrel same w h = absurd h

pub doubled : (ds : List DeclaredObject) (bounds : Ground) (relax gc : Bool) (fault : LinkFault) → AreWithin (length ds) bounds → AreDoubled (map object_of ds) fault → HasNoProgram (map object_of ds) bounds relax gc fault
doubled ds bounds relax gc fault w h =
    let some = some_leaves relax gc ds in
    record {
      drops = some.drops;
      left = some.left;
      leaves = some.leaves;
      unlinked = doubled_unlinked (map object_of ds) some.left bounds fault some.alike (subst (λ n. AreWithin n bounds) (sym (length-map ds object_of)) w) h;
    }

-- ---- the link of what relaxation leaves

-- memory may run out whatever is left
pub out_of_memory : (ds : List DeclaredObject) (bounds : Ground) (relax : Bool) → HasNoLink (map object_of ds) bounds relax OutOfMemory
out_of_memory ds bounds relax =
    let some = some_left relax (map object_of ds) (sites_text ds) in
    record { left = some.0; relaxed = some.1; unlinked = tt }

-- what collection drops, where it is off: nothing
pub none_dropped : (os : List Object) (bounds : Ground) (relax : Bool) (drops : List SectionId) (with_map : Bool) (l : Linked) → drops ≡ [] → IsLinkOfLeft os bounds relax drops with_map l → IsProgramWith os bounds relax false with_map l
none_dropped os bounds relax drops with_map l none h =
    let whole = h.linked.whole in
    let none_here : whole.map.drops ≡ [] = h.linked.dropped ∙ none in
    record {
      whole = whole;
      program = record {
        left = h.left;
        leaves = record { collected = none_here; relaxed = subst (λ x. Relaxes relax x h.left) (sym (ap (λ d. without d os) none_here ∙ without_none os)) h.relaxed };
        linked = h.linked.linked;
      };
      shown = h.linked.shown;
    }

pub none_unlinked : (os : List Object) (bounds : Ground) (relax : Bool) (fault : LinkFault) → HasNoLink os bounds relax fault → HasNoProgram os bounds relax false fault
none_unlinked os bounds relax fault h = record {
  drops = [];
  left = h.left;
  leaves = record { collected = refl; relaxed = subst (λ x. Relaxes relax x h.left) (sym (without_none os)) h.relaxed };
  unlinked = h.unlinked;
}

-- and where it is on
pub some_dropped : (os kept : List Object) (bounds : Ground) (relax : Bool) (drops others : List SectionId) (with_map : Bool) (l : Linked) → Collects true os drops → kept ≡ without drops os → others ≡ drops → IsLinkOfLeft kept bounds relax others with_map l
    → IsProgramWith os bounds relax true with_map l
some_dropped os kept bounds relax drops others with_map l collects is same h =
    let whole = h.linked.whole in
    let here : whole.map.drops ≡ drops = h.linked.dropped ∙ same in
    record {
      whole = whole;
      program = record {
        left = h.left;
        leaves = record {
          collected = subst (Collects true os) (sym here) collects;
          relaxed = subst (λ x. Relaxes relax x h.left) (is ∙ ap (λ d. without d os) (sym here)) h.relaxed;
        };
        linked = h.linked.linked;
      };
      shown = h.linked.shown;
    }

-- a program with its details
pub with_all : (os : List Object) (bounds : Ground) (relax gc : Bool) (l : Linked) → IsProgramWith os bounds relax gc true l → IsProgramOf os bounds relax gc l
with_all os bounds relax gc l h = subst (IsProgramOf os bounds relax gc) (sym h.shown) h.program

pub some_unlinked : (os kept : List Object) (bounds : Ground) (relax : Bool) (drops : List SectionId) (fault : LinkFault) → Collects true os drops → kept ≡ without drops os → HasNoLink kept bounds relax fault
    → HasNoProgram os bounds relax true fault
some_unlinked os kept bounds relax drops fault collects is h = record {
  drops = drops;
  left = h.left;
  leaves = record { collected = collects; relaxed = subst (λ x. Relaxes relax x h.left) is h.relaxed };
  unlinked = h.unlinked;
}
