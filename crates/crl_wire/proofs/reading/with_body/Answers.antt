use Rattle.std.proofs.Common.{◌≡◌, length, arith}
use Rattle.crl_wire.specs.Table.{shape_of}
use Rattle.crl_wire.proofs.TableLemmas.{parts_of, home_below}
use Rattle.crl_wire.proofs.reading.with_body.Goals as goal

pub name_in-requires : goal.name_in-requires
name_in-requires c =
    let parts = parts_of (shape_of c.args.form) c.args.header.now c.requires in
    omega (arith, home_below (shape_of c.args.form).home c.args.header.now parts.ends parts.home)

pub kind_from-requires-clause-number : goal.kind_from-requires-clause-number
kind_from-requires-clause-number c = (parts_of (shape_of c.args.form) c.args.header.now c.requires).number

pub kind_from-requires-clause-body : goal.kind_from-requires-clause-body
kind_from-requires-clause-body c =
    let len : length c.args.body.now ≡ c.args.header.now.body_len = omega arith in
    rw len (parts_of (shape_of c.args.form) c.args.header.now c.requires).len
