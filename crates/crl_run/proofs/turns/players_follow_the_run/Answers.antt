use Rattle.std.proofs.Common.{ℕ, List}
use Rattle.crl_model.specs.declared.statement.Statement.{Statement}
use Rattle.crl_protocol.specs.Chosen.{Running, takes_choice}
use Rattle.crl_run.specs.PlayerState.{PlayerState}
use Rattle.crl_run.specs.Staging.{IsOnItsWay, AllStand, AnswersAreKept, MessagesPass}
use Rattle.crl_run.proofs.Stages.{collect_stands, handle_stands, carry_stands}
use Rattle.crl_run.proofs.Taken.{players_begin, statement_can, statement_fits, statement_taken}
use Rattle.crl_run.proofs.turns.players_follow_the_run.Goals as goal

answers_kept : (count capacity : ℕ) (blocks : List (List Statement)) (r : Running) (players : ℕ → PlayerState) → IsOnItsWay count capacity r → AllStand count capacity blocks r players → AnswersAreKept count capacity blocks r players
unfolding takes_choice
answers_kept count capacity blocks r players way all i p few may place guards = collect_stands count capacity blocks r way players p i few may all place guards

messages_pass : (count capacity : ℕ) (blocks : List (List Statement)) (r : Running) (players : ℕ → PlayerState) → IsOnItsWay count capacity r → AllStand count capacity blocks r players → MessagesPass count capacity blocks r players
unfolding takes_choice
messages_pass count capacity blocks r players way all i place =
    (λ may. handle_stands count capacity blocks r way players i place may all, λ may. carry_stands count capacity blocks r way players i place may all)

pub returns-clause-begins : goal.returns-clause-begins
returns-clause-begins c = players_begin

pub returns-clause-follows : goal.returns-clause-follows
returns-clause-follows c = λ count capacity blocks r players way all. record {
  statements = λ i s few free next. record {
    can = statement_can count capacity blocks r way players all i few free s next;
    fits = λ act new acts. statement_fits count capacity blocks r way players all i few free s next act new acts;
    taken = λ act new acts. statement_taken count capacity blocks r way players all i few free s next act new acts;
  };
  answers = answers_kept count capacity blocks r players way all;
  messages = messages_pass count capacity blocks r players way all;
}
