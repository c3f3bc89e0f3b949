use Rattle.std.proofs.Common.{◌≡◌, ◌+◌, ◌<◌, ◌^◌, sym, ◌∙◌, arith}
use Rattle.crl_sections.specs.OpenSections.{guards_of}
use Rattle.crl_sections.specs.SectionsState.{guards}
use Rattle.crl_sections.proofs.Ends.{ends_last, ends_inside}
use Rattle.crl_sections.proofs.sections.Sections.end_read.Goals as goal

pub put-requires-clause-fits : goal.put-requires-clause-fits
put-requires-clause-fits c =
    let t : guards c.take.new.self + guards_of c.unwrap-open.result ≡ guards c.args.self.now = rw c.unwrap-open.ensures at c.take.ensures.guards in
    let e = c.in-Some.ensures.guards in
    let f : guards c.args.self.now < 2 ^ 64 = c.take.ensures.few in
    omega arith

pub returns-in-Some-clause-sections : goal.returns-in-Some-clause-sections
returns-in-Some-clause-sections c = ends_inside c.args.name c.args.self.now c.take.new.self c.put.new.self c.unwrap-open.result c.in-Some.rest (sym c.take.ensures.row ∙ c.unwrap-open.ensures) (sym c.in-Some.ensures.rest) c.take.ensures.gone c.put.ensures.row

pub returns-in_default-clause-sections : goal.returns-in_default-clause-sections
returns-in_default-clause-sections c = ends_last c.args.name c.args.self.now c.take.new.self c.unwrap-open.result (sym c.take.ensures.row ∙ c.unwrap-open.ensures) (sym c.in_default.ensures.rest) c.take.ensures.gone
