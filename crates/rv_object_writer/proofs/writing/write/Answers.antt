use Rattle.std.proofs.Common.{◌≡◌, ◌^◌, ◌<◌, None, length, arith, subst, sym}
use Rattle.rv_object_types.specs.View.{object_of}
use Rattle.rv_object_laws.specs.Object.{Object}
use Rattle.rv_object_file_laws.specs.FirstFault.{first_fault}
use Rattle.rv_object_file_laws.specs.ObjectOf.{ObjectOf}
use Rattle.rv_object_file_laws.specs.Written.{file_of}
use Rattle.rv_object_writer.proofs.KnownLemmas.{object_known}
use Rattle.rv_object_writer.proofs.writing.write.Goals as goal

pub returns-clause-read : goal.returns-clause-read
returns-clause-read c =
    let o : Object = object_of c.args.object.now in
    let written : c.in_ok-file.file.items ≡ file_of o = c.in_ok-file.ensures.written in
    let short : length c.in_ok-file.file.items < 2 ^ 64 = omega (arith, c.in_ok-file.file.ok, c.in_ok-file.file.small) in
    let fits : length (file_of o) < 2 ^ 64 = subst (λ file. length file < 2 ^ 64) written short in
    let law = c.written_object_is_read.ensures in
    let known = object_known c.args.object.now c.in_ok-file.ensures.sizes c.in_ok-tables.ensures.known in
    λ has. subst (λ file. (first_fault file ≡ None) × ObjectOf file o) (sym written) (law.fault o known has fits, law.object o known has fits)

pub returns-clause-known : goal.returns-clause-known
returns-clause-known c = object_known c.args.object.now c.in_ok-file.ensures.sizes c.in_ok-tables.ensures.known
