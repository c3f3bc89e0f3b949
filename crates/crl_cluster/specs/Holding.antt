-- A held node with other luggage.
use Rattle.crl_cluster.specs.declared.held.Held.{Held}

abbrev pub with_luggage : {N T : Type 0} → T → Held N T → Held N T
with_luggage luggage held = record held { behind = record held.behind { luggage = luggage } }
