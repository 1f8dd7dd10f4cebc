use Rattle.std.proofs.Common.{◌≡◌, None, ap, subst, ◌∙◌}
use Rattle.rv_object_laws.specs.Object.{Object}
use Rattle.rv_object_types.specs.View.{object_of}
use Rattle.rv_object_file_laws.specs.FirstFault.{first_fault}
use Rattle.rv_object_file_laws.specs.ObjectOf.{ObjectOf}
use Rattle.rv_object_file_laws.specs.Written.{HasFile, file_of}
use Rattle.rv_debug_laws.specs.SourceNames.{with_source}
use Rattle.rv_debug.specs.NameViews.{called}
use Rattle.rv_debug.proofs.naming.with_source.Goals as goal

pub returns-clause-written : goal.returns-clause-written
returns-clause-written c = λ o of.
    let name = called c.args.directory.now c.args.path.now in
    let same = c.one_object.ensures c.args.file.now (object_of c.in_ok-object.object) o c.in_ok-object.ensures.object.1 of in
    c.in_ok-named.ensures.written ∙ ap file_of (c.in_ok-with_name.ensures ∙ ap (with_source name) same)

pub returns-clause-read : goal.returns-clause-read
returns-clause-read c = λ o of fits.
    let name = called c.args.directory.now c.args.path.now in
    let same = c.one_object.ensures c.args.file.now (object_of c.in_ok-object.object) o c.in_ok-object.ensures.object.1 of in
    subst (λ (x : Object). HasFile x → (first_fault c.in_ok-named.named.items ≡ None) × ObjectOf c.in_ok-named.named.items x)
    (c.in_ok-with_name.ensures ∙ ap (with_source name) same) c.in_ok-named.ensures.read fits

pub returns-clause-source : goal.returns-clause-source
returns-clause-source c = λ o of fits good.
    let name = called c.args.directory.now c.args.path.now in
    let same = c.one_object.ensures c.args.file.now (object_of c.in_ok-object.object) o c.in_ok-object.ensures.object.1 of in
    let read = subst (λ (x : Object). HasFile x → (first_fault c.in_ok-named.named.items ≡ None) × ObjectOf c.in_ok-named.named.items x)
    (c.in_ok-with_name.ensures ∙ ap (with_source name) same) c.in_ok-named.ensures.read fits in
    c.source_is_read.ensures c.in_ok-named.named.items o name read.0 read.1 good
