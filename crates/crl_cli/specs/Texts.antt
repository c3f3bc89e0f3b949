-- What is printed in the place of an account.
use Rattle.std.specs.Prelude.{ℕ, List, ◌++◌, codes, decimal}
use Rattle.crl_script.specs.declared.fault.ScriptWhy.{ScriptWhy}
use Rattle.crl_script.specs.declared.fault.ScriptWhy.TheVariants.{NoNodes, BadNodes, BadWord, BadNumber, BadHex, UnknownLabel, TwiceLabel, BadSize, BadNode, TwiceNode, LineTooLong}

abbrev pub usage_text : List ℕ
usage_text = codes "usage: crl COMMAND\n"

abbrev pub read_fault_text : List ℕ
read_fault_text = codes "read fault\n"

abbrev pub why_word : ScriptWhy → List ℕ
why_word NoNodes = codes "NoNodes"
why_word BadNodes = codes "BadNodes"
why_word BadWord = codes "BadWord"
why_word BadNumber = codes "BadNumber"
why_word BadHex = codes "BadHex"
why_word UnknownLabel = codes "UnknownLabel"
why_word TwiceLabel = codes "TwiceLabel"
why_word BadSize = codes "BadSize"
why_word BadNode = codes "BadNode"
why_word TwiceNode = codes "TwiceNode"
why_word LineTooLong = codes "LineTooLong"

-- `bad script LINE WHY`: the line is 0 where the fault is the whole text's
abbrev pub bad_script_text : ℕ → List ℕ → List ℕ
bad_script_text line why = codes "bad script " ++ decimal line ++ codes " " ++ why ++ codes "\n"

abbrev pub too_long_text : List ℕ
too_long_text = bad_script_text 0 (codes "TooLong")

abbrev pub legal_text : List ℕ
legal_text = codes "legal\n"

-- `illegal LINE`
abbrev pub illegal_text : ℕ → List ℕ
illegal_text line = codes "illegal " ++ decimal line ++ codes "\n"

-- `bad account LINE`: the line is 0 where the bytes are too many
abbrev pub bad_account_text : ℕ → List ℕ
bad_account_text line = codes "bad account " ++ decimal line ++ codes "\n"

-- `nodes N regions R sections S events E messages M`
abbrev pub summary_text : ℕ → ℕ → ℕ → ℕ → ℕ → List ℕ
summary_text nodes regions sections events messages =
    codes "nodes " ++ decimal nodes ++ codes " regions " ++ decimal regions ++ codes " sections " ++ decimal sections
    ++ codes " events " ++ decimal events ++ codes " messages " ++ decimal messages ++ codes "\n"
