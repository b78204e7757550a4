-- What the code's names, items, spots and lists are as plain data.
use Rattle.std.specs.Prelude.{Option, Some, None, map}
use Rattle.x86_litmus.specs.Listing.{Named as PlainNamed, Action as PlainAction, fence, store, load}
use Rattle.x86_litmus.specs.Items.{Item as PlainItem, initial, column, instructed, row_ended, denied, register_is, final}
use Rattle.x86_litmus.specs.Said.{Instruction as PlainInstruction, Asked as PlainAsked, Said as PlainSaid}
use Rattle.x86_litmus.specs.Spots.{Spot as PlainSpot, block, valued, head, row, moving, storing, stored, loading, asking, thread, register, behind}
use Rattle.x86_litmus.specs.{Faults.{Found}, declared.item.{Named.{Named}, Action.{Action, TheVariants.{Fence, Store, Load}}, Instruction.{Instruction}}}
use Rattle.x86_litmus.specs.declared.{item.Item.{Item, TheVariants.{Initial, Column, Instructed, RowEnded, Denied, RegisterIs, Final}}, spot.Spot.{Spot}}
use Rattle.x86_litmus.specs.declared.spot.Spot.TheVariants.{Block, Valued, Head, Row, Moving, Storing, Stored, Loading, Asking, Thread, Register, Behind}
use Rattle.x86_litmus.specs.declared.{said.{Asked.{Asked}, Said.{Said}}, content_fault.ContentFault.{ContentFault}, fault.X86Fault.{X86Fault}}
use Rattle.x86_litmus.specs.declared.fault.X86Fault.TheVariants.{Lexical, Memory}
use Rattle.uspec_lexer.specs.declared.fault.LexFault.{LexFault, TheVariants.{Lexical as lexical, Memory as lex_memory}}

abbrev pub plain_named : Named → PlainNamed
plain_named n = record { word = n.word.now; at = n.at.offset }

abbrev pub plain_action : Action → PlainAction
plain_action Fence = fence
plain_action (Store l v) = store (plain_named l) v
plain_action (Load r l) = load (plain_named r) (plain_named l)

abbrev pub plain_instruction : Instruction → PlainInstruction
plain_instruction i = record { thread = i.thread; at = i.at.offset; action = plain_action i.action }

abbrev pub plain_item : Item → PlainItem
plain_item (Initial n v) = initial (plain_named n) v
plain_item (Column n) = column (plain_named n)
plain_item (Instructed i) = instructed i.thread i.at.offset (plain_action i.action)
plain_item (RowEnded cells at) = row_ended cells at.offset
plain_item Denied = denied
plain_item (RegisterIs t r v) = register_is t.number t.at.offset (plain_named r) v
plain_item (Final n v) = final (plain_named n) v

abbrev pub plain_some : Option Item → Option PlainItem
plain_some None = None
plain_some (Some i) = Some (plain_item i)

abbrev pub plain_spot : Spot → PlainSpot
plain_spot Block = block
plain_spot (Valued n) = valued (plain_named n)
plain_spot Head = head
plain_spot (Row k) = row k
plain_spot (Moving k at) = moving k at.offset
plain_spot (Storing k at) = storing k at.offset
plain_spot (Stored k at n) = stored k at.offset (plain_named n)
plain_spot (Loading k at r) = loading k at.offset (plain_named r)
plain_spot Asking = asking
plain_spot (Thread t) = thread t.number t.at.offset
plain_spot (Register t r) = register t.number t.at.offset (plain_named r)
plain_spot (Behind n) = behind (plain_named n)

abbrev pub plain_asked : Asked → PlainAsked
plain_asked a = record { thread = a.thread; register = a.register.now; value = a.value }

abbrev pub plain_said : Said → PlainSaid
plain_said s = record {
  initial = s.initial;
  columns = s.columns;
  instructions = map plain_instruction s.instructions.items;
  final = s.final_values;
  asked = map plain_asked s.asked.items;
  is_denied = s.is_denied;
}

-- the fault of the code, or none
abbrev pub plain_fault : Option ContentFault → Option Found
plain_fault None = None
plain_fault (Some f) = Some (record { kind = f.kind; at = f.place.offset })

abbrev pub fault_from : LexFault → X86Fault
fault_from (lexical place) = Lexical place
fault_from lex_memory = Memory
