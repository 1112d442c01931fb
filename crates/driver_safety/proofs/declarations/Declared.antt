-- The laws of declarations.
use Rattle.driver_safety.specs.DeclarationLaws.{EachTableHasTypes, EachFunctionHasSlots, EachFunctionHasHead}
use Rattle.driver_safety.proofs.declarations.FunctionHeads.{seen, has_parameters, entered, result_declared}
use Rattle.driver_safety.proofs.declarations.FunctionSlots.{slots_stand}
use Rattle.driver_safety.proofs.declarations.TableFacts.{table_is}

pub each_table : EachTableHasTypes
each_table u t few arms h = table_is u t h arms few

pub each_slots : EachFunctionHasSlots
each_slots t f is line first = slots_stand t f is line first

pub each_head : EachFunctionHasHead
each_head t f is = record {
  seen = seen t f is 0 0;
  parameters = has_parameters t f is 0 0;
  entered = λ line first g e. entered t f is line first g e;
  result = λ r e. result_declared t f.head r e;
}
