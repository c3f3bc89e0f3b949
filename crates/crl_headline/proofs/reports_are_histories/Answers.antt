use Rattle.crl_headline.proofs.Histories.{one_history, reads_shown, legal_report}
use Rattle.crl_headline.proofs.reports_are_histories.Goals as goal

pub returns : goal.returns
returns c count capacity blocks words stuck printed few are script r =
    let legal = legal_report count capacity blocks words stuck printed few are script r in
    one_history count capacity blocks words stuck printed few are script r (reads_shown count printed.entries legal c.reads_show_the_last_write.ensures)
    (λ q. c.last_write_stays.ensures count q printed.entries)
