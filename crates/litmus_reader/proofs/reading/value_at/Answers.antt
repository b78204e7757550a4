use Rattle.std.proofs.Common.{length, sym, ap, ◌∙◌, arith}
use Rattle.litmus_reader.specs.{Syntax.{spelled_value}, declared.item.ValueText.{ValueText, TheVariants.{Number}}}
use Rattle.litmus_reader.proofs.Lines.{value-seen, value-within, value-room, value_number, value_entry, value_known}
use Rattle.litmus_reader.proofs.reading.value_at.Goals as goal

pub terminal_at-requires : goal.terminal_at-requires
terminal_at-requires c = let (v, b) = c.requires.begins in omega (arith, value-within v b, value-room v)

pub numeral_at-requires : goal.numeral_at-requires
numeral_at-requires c =
    let (v, b) = c.requires.begins in
    let (n, is, at) = value_number v b (sym (value-seen v b c.terminal_at.result c.terminal_at.ensures) ∙ c.in-Data.is) in (n, at)

pub entry_at-requires-clause-begins : goal.entry_at-requires-clause-begins
entry_at-requires-clause-begins c =
    let (v, b) = c.requires.begins in
    let e = value_entry v b (sym (value-seen v b c.terminal_at.result c.terminal_at.ensures) ∙ c.in-Maps.is) in
    (e.tag, e.accessed, e.dirty, e.begins)

pub entry_at-requires-clause-within : goal.entry_at-requires-clause-within
entry_at-requires-clause-within c =
    let (v, b) = c.requires.begins in
    let e = value_entry v b (sym (value-seen v b c.terminal_at.result c.terminal_at.ensures) ∙ c.in-Maps.is) in
    omega (arith, value-within v b, ap (λ (x : ValueText). length (spelled_value x)) e.is)

pub unreachable-requires : goal.unreachable-requires
unreachable-requires c =
    let (v, b) = c.requires.begins in
    let word = value-seen v b c.terminal_at.result c.terminal_at.ensures in
    value_known v (λ h. c.in_default.not-Data (word ∙ h)) (λ h. c.in_default.not-Maps (word ∙ h))

pub returns-in-Data : goal.returns-in-Data
returns-in-Data c = λ v b.
    let (n, is, at) = value_number v b (sym (value-seen v b c.terminal_at.result c.terminal_at.ensures) ∙ c.in-Data.is) in
    (ap Number (c.numeral_at.ensures.value n at) ∙ sym is, omega (arith, ap (λ (x : ValueText). length (spelled_value x)) is))

pub returns-in-Maps : goal.returns-in-Maps
returns-in-Maps c = λ v b.
    let e = value_entry v b (sym (value-seen v b c.terminal_at.result c.terminal_at.ensures) ∙ c.in-Maps.is) in
    (c.entry_at.ensures e.tag e.accessed e.dirty e.begins ∙ sym e.is, omega (arith, ap (λ (x : ValueText). length (spelled_value x)) e.is))
