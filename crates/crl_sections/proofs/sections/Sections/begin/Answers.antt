use Rattle.std.proofs.Common.{◌≡◌, sym, ap, Some, None}
use Rattle.crl_table.specs.Tables.{table_of}
use Rattle.crl_sections.specs.SectionsState.{CanBegin}
use Rattle.crl_sections.proofs.Begins.{begins_inside, begins_first}
use Rattle.crl_sections.proofs.sections.Sections.begin.Goals as goal

pub returns-in-Some-clause-sections : goal.returns-in-Some-clause-sections
returns-in-Some-clause-sections c =
    let v : table_of c.args.self.now.rows c.args.name ≡ Some c.in-Some.outer = sym c.in-Some.ensures.row in
    ap (λ s. s.sections) (begins_inside c.args.name c.args.write c.args.bytes c.args.self.now c.take.new.self c.put.new.self c.in-Some.outer v (rw v at c.requires.may) c.take.ensures.gone (rw c.begin_inside.ensures at c.put.ensures.row))

pub returns-in-Some-clause-number : goal.returns-in-Some-clause-number
returns-in-Some-clause-number c =
    let v : table_of c.args.self.now.rows c.args.name ≡ Some c.in-Some.outer = sym c.in-Some.ensures.row in
    rw c.number-number.ensures (ap (λ s. s.number) (begins_inside c.args.name c.args.write c.args.bytes c.args.self.now c.take.new.self c.put.new.self c.in-Some.outer v (rw v at c.requires.may) c.take.ensures.gone (rw c.begin_inside.ensures at c.put.ensures.row)))

pub returns-in-None-clause-sections : goal.returns-in-None-clause-sections
returns-in-None-clause-sections c =
    let v : table_of c.args.self.now.rows c.args.name ≡ None = sym c.in-None.ensures.row in
    ap (λ s. s.sections) (begins_first c.args.name c.args.write c.args.bytes c.args.self.now c.take.new.self c.next_number-number.new.self c.put-in-None.new.self c.next_number-number.result v c.take.ensures.gone c.next_number-number.ensures.rows c.next_number-number.ensures.last c.next_number-number.ensures.number (rw c.begin.ensures at c.put-in-None.ensures.row))

pub returns-in-None-clause-number : goal.returns-in-None-clause-number
returns-in-None-clause-number c =
    let v : table_of c.args.self.now.rows c.args.name ≡ None = sym c.in-None.ensures.row in
    ap (λ s. s.number) (begins_first c.args.name c.args.write c.args.bytes c.args.self.now c.take.new.self c.next_number-number.new.self c.put-in-None.new.self c.next_number-number.result v c.take.ensures.gone c.next_number-number.ensures.rows c.next_number-number.ensures.last c.next_number-number.ensures.number (rw c.begin.ensures at c.put-in-None.ensures.row))
