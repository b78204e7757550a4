-- What the code's micro-ops, dependencies, stated values and expectations are as plain data.
use Rattle.std.specs.Prelude.{List, map, Option, Some, None}
use Rattle.pc_common.specs.Case.{Case, PageAt, Address as PlainAddress, page, entry_of, Value as PlainValue, number, entry, Touch, Kind, read, write, fence, MicroOp, Dependency as PlainDependency, Expectation, permitted, forbidden, unstated}
use Rattle.pc_common.specs.declared.value.Value.{Value, TheVariants.{Number, Entry as EntryValue}}
use Rattle.pc_case.specs.declared.{address.{Page.{Page}, Address.{Address, TheVariants.{Page as PageAddress, Entry as EntryAddress}}}, op.Memop.{Memop}}
use Rattle.pc_case.specs.declared.{op.{Access.{Access, TheVariants.{Read, Write, Fence}}, Op.{Op}}, dependency.Dependency.{Dependency}, stated.Stated.{Stated}}
use Rattle.pc_case.specs.declared.case.Expect.{Expect, TheVariants.{Permitted, Forbidden, Unstated}}

abbrev pub page_at : Page → PageAt
page_at p = record { tag = p.tag; index = p.index }

abbrev pub address_at : Address → PlainAddress
address_at (PageAddress tag index) = page (record { tag = tag; index = index })
address_at (EntryAddress tag) = entry_of tag

abbrev pub plain_value : Value → PlainValue
plain_value (Number n) = number n
plain_value (EntryValue tag accessed dirty) = entry (record { tag = tag; accessed = accessed; dirty = dirty })

abbrev pub touch_at : Memop → Touch
touch_at m = record { va = page_at m.va; pa = address_at m.pa; value = plain_value m.value }

abbrev pub touch_of : Option Memop → Option Touch
touch_of None = None
touch_of (Some m) = Some (touch_at m)

abbrev pub kind_of_access : Access → Kind
kind_of_access Read = read
kind_of_access Write = write
kind_of_access Fence = fence

abbrev pub micro_op : Op → MicroOp
micro_op o =
    record {
      g = o.id.g;
      n = o.id.n;
      core = o.core;
      thread = o.thread;
      types = o.types;
      kind = kind_of_access o.access;
      touch = touch_of o.memop;
    }

abbrev pub dependency : Dependency → PlainDependency
dependency d = record { kind = d.kind; source = d.source; target = d.target }

abbrev pub stated_value : Stated → PlainAddress × PlainValue
stated_value s = (address_at s.pa, plain_value s.value)

abbrev pub expectation : Expect → Expectation
expectation Permitted = permitted
expectation Forbidden = forbidden
expectation Unstated = unstated

-- the case that says this, each list in test order
abbrev pub case_of_parts : List Op → List Dependency → List Stated → List Stated → Expect → Case
case_of_parts ops dependencies initial final expect =
    record {
      ops = map micro_op ops;
      dependencies = map dependency dependencies;
      initial = map stated_value initial;
      final = map stated_value final;
      expectation = expectation expect;
    }
