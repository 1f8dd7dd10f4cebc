-- The objects of texts, one after another, and the statements of all of them.

use Rattle.std.proofs.Common.{◌≡◌, ℕ, Bool, zero, suc, ◌+◌, ◌<◌, List, [], ◌∷◌, ◌++◌, length, take, drop, map, get_or, sym, ap, subst, ◌∙◌, refl, inl, inr, arith}
use Rattle.std.specs.Prelude.{Result, Ok, Err, IfErr}
use Rattle.std.proofs.lemmas.Bool.{or_cases}
use Rattle.std.specs.Result.{IsErrAnd}
use Rattle.std.specs.Borrow.{Bor}
use Rattle.rv_map_laws.specs.declared.map.SectionId.{SectionId}
use Rattle.rv_statement.specs.View.{now_of}
use Rattle.rv_fault.specs.declared.fault.Fault.{Fault}
use Rattle.rv_fault.specs.declared.fault.Fault.TheVariants as cases
use Rattle.rv_fault.specs.declared.source_fault.SourceFault.{SourceFault}
use Rattle.rv_statement_laws.specs.Statement.{Statement}
use Rattle.rv_object_types.specs.declared.object.Object.{Object as DeclaredObject}
use Rattle.rv_object_laws.specs.Object.{Object}
use Rattle.rv_object_types.specs.View.{object_of}
use Rattle.rv_link_laws.specs.declared.bounds.Ground.{Ground}
use Rattle.rv_link_laws.specs.Shortened.{Relaxes}
use Rattle.rv_link_laws.specs.Without.{without}
use Rattle.rv_chain_laws.specs.Headline.{AllRead}
use Rattle.rv_sources_link_theorems.specs.Joins.{AreObjectsOf}
use Rattle.rv_assemble_laws.specs.FirstFault.{IsFirstFault}
use Rattle.rv_chain_laws.specs.Objects.{AreEach, AreObjectsFrom}
use Rattle.rv_fault.specs.declared.link_fault.LinkFault.{LinkFault}
use Rattle.rv_fault.specs.declared.link_fault.LinkFault.TheVariants as faults
use Rattle.rv_fault.specs.Fault.{of_link}
use Rattle.rv_link_laws.specs.Ground.{IsGround}
use Rattle.rv_object_types.proofs.WholeLemmas.{are_whole}
use Rattle.rv_reach_theorems.specs.Reach.{is_short_call, is_chosen_branch, ShortCallsReach, ShortBranchesReach, ShortFormsReach}
use Rattle.rv_chain.specs.Refusals.{IsRefusedAt, IsFirstRefused, IsRefusedIn, AreUnlinked, IsRefusedFor}

pub one_more : (Is : List ℕ → Object → Type 0) (all : List (List ℕ)) (os : List Object) (bytes : List ℕ) (o : Object) → AreEach Is all os → Is bytes o → AreEach Is (all ++ bytes ∷ []) (os ++ o ∷ [])
one_more Is [] [] bytes o h is = (is, tt)
one_more Is [] (p ∷ os) bytes o h is = absurd h
one_more Is (b ∷ all) [] bytes o h is = absurd h
one_more Is (b ∷ all) (p ∷ os) bytes o (one, h) is = (one, one_more Is all os bytes o h is)

-- the statements that texts read as, of which these are the objects
pub gathered : (texts : List (List ℕ)) (os : List Object) → AreObjectsFrom texts os → (sources : List (List Statement)) × AllRead texts sources × AreObjectsOf sources os
gathered [] [] h = ([], tt, tt)
gathered [] (o ∷ os) h = absurd h
gathered (text ∷ texts) [] h = absurd h
gathered (text ∷ texts) (o ∷ os) ((ss, reads, sound, is), h) =
    let rest = gathered texts os h in
    (ss ∷ rest.0, (reads, rest.1), (is, rest.2))

-- the text at an index, between those before and after it
split_here : (texts : List (List ℕ)) (i : ℕ) → i < length texts → texts ≡ take i texts ++ get_or texts i [] ∷ drop (suc i) texts
split_here [] i h = absurd (let no : i < 0 = h in omega arith)
split_here (t ∷ texts) zero h = refl
split_here (t ∷ texts) (suc i) h = ap (λ l. t ∷ l) (split_here texts i (omega (arith, h)))

pub split_at : (texts : List (List ℕ)) (i : ℕ) → i < length texts → texts ≡ take i texts ++ get_or texts i [] ∷ drop (i + 1) texts
split_at texts i h =
    let next : suc i ≡ i + 1 = omega arith in
    subst (λ n. texts ≡ take i texts ++ get_or texts i [] ∷ drop n texts) next (split_here texts i h)

take_next : (texts : List (List ℕ)) (i : ℕ) → i < length texts → take (suc i) texts ≡ take i texts ++ get_or texts i [] ∷ []
take_next [] i h = absurd (let no : i < 0 = h in omega arith)
take_next (t ∷ texts) zero h = refl
take_next (t ∷ texts) (suc i) h = ap (λ l. t ∷ l) (take_next texts i (omega (arith, h)))

pub take_one_more : (texts : List (List ℕ)) (i : ℕ) → i < length texts → take (i + 1) texts ≡ take i texts ++ get_or texts i [] ∷ []
take_one_more texts i h =
    let next : suc i ≡ i + 1 = omega arith in
    subst (λ n. take n texts ≡ take i texts ++ get_or texts i [] ∷ []) next (take_next texts i h)

pub taken : (texts : List (List ℕ)) (i : ℕ) → i < length texts → length (take i texts) ≡ i
taken [] i h = absurd (let no : i < 0 = h in omega arith)
taken (t ∷ texts) zero h = refl
taken (t ∷ texts) (suc i) h = ap suc (taken texts i (omega (arith, h)))

-- what is said of the one error that is answered
pub err_given : {X : Type 0} (r : Result X Fault) (P Q : Fault → Type 0) → IsErrAnd r Q → ((f : Fault) → Q f → P f) → IfErr r P
err_given (Ok x) P Q h go = tt
err_given (Err f) P Q h go = go f h

pub refused_there : (texts : List (List ℕ)) (i : ℕ) (os : List Object) (fault : SourceFault) (number : ℕ) → i < length texts → AreObjectsFrom (take i texts) os
    → number ≡ i + 1 → IsFirstFault (get_or texts i []) fault → IsFirstRefused texts number fault
refused_there texts i os fault number h good is refused = record {
  before = take i texts;
  text = get_or texts i [];
  after = drop (i + 1) texts;
  whole = split_at texts i h;
  number_is = is ∙ ap (λ n. n + 1) (sym (taken texts i h));
  objects = os;
  good = good;
  refused = refused;
}

-- no short form is out of reach in what is left of the objects of sources
pub short_forms_reach : ShortCallsReach → ShortBranchesReach → (sources : List (List Statement)) (objects : List DeclaredObject) (drops : List SectionId) (left : List Object) (bounds : Ground)
    (relax : Bool) → AreObjectsOf sources (map object_of objects) → Relaxes relax (without drops (map object_of objects)) left → IsGround bounds
    → ShortFormsReach sources (without drops (map object_of objects)) left bounds
short_forms_reach calls branches sources objects drops left bounds relax of relaxed at p placed section place i j before now ii jj was is short =
    elim (or_cases (is_short_call before.kind now.kind) (is_chosen_branch sources i before) short) [
      | inl call ↦ calls (map object_of objects) drops left bounds relax p (are_whole objects) relaxed at placed section place i j before now ii jj was is call
      | inr branch ↦ branches sources (map object_of objects) drops left bounds relax p (are_whole objects) of relaxed at placed section place i j before now ii jj was is branch
    ]

-- a refused link of assembled sources
pub link_refused : (texts : List (List ℕ)) (bounds : Ground) (relax gc : Bool) (fault : LinkFault) → AreUnlinked texts bounds relax gc fault → IsRefusedFor texts bounds relax gc (of_link fault)
link_refused texts bounds relax gc faults.OutOfMemory h = tt
link_refused texts bounds relax gc faults.Overflow h = (tt, inr h)
link_refused texts bounds relax gc faults.OddTarget h = (tt, inr h)
link_refused texts bounds relax gc faults.DanglingPcrel h = (tt, inr h)
link_refused texts bounds relax gc faults.AlignmentShort h = (tt, inr h)
link_refused texts bounds relax gc (faults.Undefined name) h = (tt, inr h)
link_refused texts bounds relax gc (faults.Duplicate name) h = (tt, inr h)
link_refused texts bounds relax gc faults.EntryMissing h = (tt, inr h)
link_refused texts bounds relax gc faults.ImageTooLarge h = (tt, inr h)
link_refused texts bounds relax gc faults.BadTextStart h = (tt, inr h)
link_refused texts bounds relax gc faults.TooManyFiles h = (tt, inr h)

-- the text of a source at an index
pub source_at : (sources : List (Bor (List ℕ))) (i : ℕ) (d : Bor (List ℕ)) → i < length sources → get_or (map now_of sources) i [] ≡ (get_or sources i d).now
source_at [] i d h = absurd (let no : i < 0 = h in omega arith)
source_at (s ∷ sources) zero d h = refl
source_at (s ∷ sources) (suc i) d h = source_at sources i d (omega (arith, h))

-- a source is refused, and those before it have objects
pub refused_in : (texts : List (List ℕ)) (i : ℕ) (os : List Object) (f : Fault) → i < length texts → AreObjectsFrom (take i texts) os → IsRefusedAt (i + 1) (get_or texts i []) f → IsRefusedIn texts f
refused_in texts i os (cases.Source number fault) h good (named, is, refused) = (named, refused_there texts i os fault number h good is refused)
refused_in texts i os (cases.File number fault) h good refused = refused
refused_in texts i os (cases.Link fault) h good refused = refused
refused_in texts i os cases.Memory h good refused = tt
