-- That texts are built as the files of their objects are linked: from the laws of each part.

use Rattle.std.proofs.Common.{◌≡◌, ℕ, Bool, ◌<◌, ◌^◌, inl, inr, List, [], ◌∷◌, length, refl, sym, ap, subst, ◌∙◌, None}
use Rattle.rv_statement_laws.specs.Statement.{Statement}
use Rattle.rv_parse_laws.specs.Reading.{Reads}
use Rattle.rv_link_laws.specs.declared.bounds.Ground.{Ground}
use Rattle.rv_map_laws.specs.Text.{map_text}
use Rattle.rv_image_laws.specs.Executable.{exe_of}
use Rattle.rv_object_laws.specs.Object.{Object}
use Rattle.rv_object_file_laws.specs.FirstFault.{first_fault}
use Rattle.rv_object_file_laws.specs.Known.{IsObject}
use Rattle.rv_object_file_laws.specs.ObjectOf.{ObjectOf}
use Rattle.rv_object_file_laws.specs.Written.{HasFile, file_of}
use Rattle.rv_assemble_laws.specs.IsObjectOf.{IsObjectOf}
use Rattle.rv_fault.specs.declared.fault.Fault.TheVariants.{Source, File, Link, Memory}
use Rattle.rv_chain_laws.specs.Objects.{IsObjectFrom, IsObjectIn, AreObjectsFrom, AreObjectsIn}
use Rattle.rv_chain_laws.specs.Linking.{IsBuiltOf, AreBuilt, AreLinked}
use Rattle.rv_chain.specs.Agreement.{IsFileFor, AreFilesFor, AreBuiltAlike, AreNotUnlinkable, AreNotRefused, AreRefusedAlike, BuildsAsItLinks}
use Rattle.rv_chain.proofs.EachLemmas.{same_each}
use Rattle.rv_chain.proofs.ReasonsLemmas.{LinkLaws, no_refusal, one_reason}
use Rattle.rv_chain.proofs.SourcesLemmas.{SourceLaws, one_from, are_sound, no_source, refusal_from}
use Rattle.rv_chain.proofs.FilesLemmas.{one_in, no_unread, refusal_in}

-- ---- the objects of texts, which are those in their files

abbrev objects_of : (texts files : List (List ℕ)) → AreFilesFor texts files → List Object
objects_of [] [] h = []
objects_of [] (file ∷ files) h = absurd h
objects_of (text ∷ texts) [] h = absurd h
objects_of (text ∷ texts) (file ∷ files) (h, hs) = h.made.0 ∷ objects_of texts files hs

are_from : (texts files : List (List ℕ)) (h : AreFilesFor texts files) → AreObjectsFrom texts (objects_of texts files h)
are_from [] [] h = tt
are_from [] (file ∷ files) h = absurd h
are_from (text ∷ texts) [] h = absurd h
are_from (text ∷ texts) (file ∷ files) (h, hs) = (h.made.1, are_from texts files hs)

-- ---- the laws of the parts

pub record Laws : Type 0 where
  pub sources : SourceLaws
  pub linking : LinkLaws
  pub filed : (text : List ℕ) (ss : List Statement) (o : Object) → Reads text ss → IsObjectOf ss o → HasFile o
  pub sound : (o : Object) → IsObject o → HasFile o → length (file_of o) < 2 ^ 64 → first_fault (file_of o) ≡ None
  pub held : (o : Object) → IsObject o → HasFile o → length (file_of o) < 2 ^ 64 → ObjectOf (file_of o) o
  pub one_held : (file : List ℕ) (o p : Object) → ObjectOf file o → ObjectOf file p → o ≡ p

module _ (laws : Laws) where
  has_file : (text : List ℕ) (o : Object) → IsObjectFrom text o → HasFile o
  has_file text o (ss, reads, good, is) = laws.filed text ss o reads is

  in_file : (text file : List ℕ) (h : IsFileFor text file) → IsObjectIn file h.made.0
  in_file text file h =
      let fits : HasFile h.made.0 = has_file text h.made.0 h.made.1 in
      let short : length (file_of h.made.0) < 2 ^ 64 = subst (λ (f : List ℕ). length f < 2 ^ 64) h.made.3 h.short in (
        ap first_fault h.made.3 ∙ laws.sound h.made.0 h.made.2 fits short,
        subst (λ f. ObjectOf f h.made.0) (sym h.made.3) (laws.held h.made.0 h.made.2 fits short),
      )

  are_in : (texts files : List (List ℕ)) (h : AreFilesFor texts files) → AreObjectsIn files (objects_of texts files h)
  are_in [] [] h = tt
  are_in [] (file ∷ files) h = absurd h
  are_in (text ∷ texts) [] h = absurd h
  are_in (text ∷ texts) (file ∷ files) (h, hs) = (in_file text file h, are_in texts files hs)

  -- ---- what is built and linked of these objects

  built_of : (texts : List (List ℕ)) (os : List Object) (bounds : Ground) (relax gc : Bool) (exe map : List ℕ) → AreObjectsFrom texts os → AreBuilt texts bounds relax gc exe map → IsBuiltOf os bounds relax gc exe map
  built_of texts os bounds relax gc exe map from (ps, were, is) = subst (λ l. IsBuiltOf l bounds relax gc exe map) (same_each IsObjectFrom (one_from laws.sources) texts ps os were from) is

  linked_of : (files : List (List ℕ)) (os : List Object) (bounds : Ground) (relax gc : Bool) (exe map : List ℕ) → AreObjectsIn files os → AreLinked files bounds relax gc exe map → IsBuiltOf os bounds relax gc exe map
  linked_of files os bounds relax gc exe map inside (within, (ps, were, is)) = subst (λ l. IsBuiltOf l bounds relax gc exe map) (same_each IsObjectIn (one_in laws.one_held) files ps os were inside) is

  -- ---- the law

  built_alike : AreBuiltAlike
  built_alike texts files bounds relax gc exe other_exe map other_map h built linked =
      let os = objects_of texts files h in
      let from : AreObjectsFrom texts os = are_from texts files h in
      let b : IsBuiltOf os bounds relax gc exe map = built_of texts os bounds relax gc exe map from built in
      let c : IsBuiltOf os bounds relax gc other_exe other_map = linked_of files os bounds relax gc other_exe other_map (are_in texts files h) linked in
      let same : b.linked ≡ c.linked = laws.linking.one_linked os bounds relax gc b.linked c.linked (laws.linking.placed os (are_sound laws.sources texts os from)) b.links c.links in
      (b.written ∙ ap exe_of same ∙ sym c.written, b.shown ∙ ap (λ l. map_text l.map) same ∙ sym c.shown)

  not_unlinkable : AreNotUnlinkable
  not_unlinkable texts files bounds relax gc exe map (Source number fault) h built un = absurd un
  not_unlinkable texts files bounds relax gc exe map (File number fault) h built (named, within, first) = absurd (no_unread files (objects_of texts files h) number fault (are_in texts files h) first)
  not_unlinkable texts files bounds relax gc exe map (Link fault) h built (named, reason) =
      let os = objects_of texts files h in
      let b : IsBuiltOf os bounds relax gc exe map = built_of texts os bounds relax gc exe map (are_from texts files h) built in
      absurd (no_refusal laws.linking os bounds relax gc b.linked fault b.links named (refusal_in laws.one_held files os bounds relax gc fault (are_in texts files h) reason))
  not_unlinkable texts files bounds relax gc exe map Memory h built un = refl

  not_refused : AreNotRefused
  not_refused texts files bounds relax gc exe map (Source number fault) h linked (named, within, first) =
      absurd (no_source laws.sources texts (objects_of texts files h) number fault (are_from texts files h) named first)
  not_refused texts files bounds relax gc exe map (File number fault) h linked refused = absurd refused
  not_refused texts files bounds relax gc exe map (Link fault) h linked (named, reason) =
      let os = objects_of texts files h in
      let c : IsBuiltOf os bounds relax gc exe map = linked_of files os bounds relax gc exe map (are_in texts files h) linked in
      absurd (no_refusal laws.linking os bounds relax gc c.linked fault c.links named (refusal_from laws.sources texts os bounds relax gc fault (are_from texts files h) reason))
  not_refused texts files bounds relax gc exe map Memory h linked refused = refl

  refused_alike : AreRefusedAlike
  refused_alike texts files bounds relax gc (Source number fault) other h (named, within, first) un =
      absurd (no_source laws.sources texts (objects_of texts files h) number fault (are_from texts files h) named first)
  refused_alike texts files bounds relax gc (File number fault) other h refused un = absurd refused
  refused_alike texts files bounds relax gc Memory other h refused un = inl refl
  refused_alike texts files bounds relax gc (Link fault) (Source number other) h refused un = absurd un
  refused_alike texts files bounds relax gc (Link fault) (File number other) h refused (named, within, first) = absurd (no_unread files (objects_of texts files h) number other (are_in texts files h) first)
  refused_alike texts files bounds relax gc (Link fault) (Link other) h (named, reason) (called, again) =
      let os = objects_of texts files h in
      let from : AreObjectsFrom texts os = are_from texts files h in
      inr (inr (one_reason laws.linking os bounds relax gc fault other (are_sound laws.sources texts os from) named called
      (refusal_from laws.sources texts os bounds relax gc fault from reason) (refusal_in laws.one_held files os bounds relax gc other (are_in texts files h) again)))
  refused_alike texts files bounds relax gc (Link fault) Memory h refused un = inr (inl refl)

  pub agreed : BuildsAsItLinks
  agreed = record {
    alike = built_alike;
    linked = not_unlinkable;
    built = not_refused;
    refused = refused_alike;
  }
