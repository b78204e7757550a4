use Rattle.std.proofs.Common.{length, sym, ap, ◌∙◌, arith}
use Rattle.litmus_reader.specs.{Syntax.{spelled_stated}, declared.item.ValueText.{ValueText, TheVariants.{Number}}}
use Rattle.litmus_reader.proofs.Lines.{stated-seen, stated-within, stated_number, stated_entry, stated_known}
use Rattle.litmus_reader.proofs.reading.stated_at.Goals as goal

pub numeral_at-requires : goal.numeral_at-requires
numeral_at-requires c =
    let (v, b) = c.requires.begins in
    let (n, is, at) = stated_number v b (sym (stated-seen v b c.terminal_at.result c.terminal_at.ensures) ∙ c.in-Number.is) in (n, at)

pub entry_at-requires-clause-begins : goal.entry_at-requires-clause-begins
entry_at-requires-clause-begins c =
    let (v, b) = c.requires.begins in
    let e = stated_entry v b (sym (stated-seen v b c.terminal_at.result c.terminal_at.ensures) ∙ c.in-Open.is) in
    (e.tag, e.accessed, e.dirty, e.begins)

pub entry_at-requires-clause-within : goal.entry_at-requires-clause-within
entry_at-requires-clause-within c =
    let (v, b) = c.requires.begins in
    let e = stated_entry v b (sym (stated-seen v b c.terminal_at.result c.terminal_at.ensures) ∙ c.in-Open.is) in
    omega (arith, stated-within v b, ap (λ (x : ValueText). length (spelled_stated x)) e.is)

pub unreachable-requires : goal.unreachable-requires
unreachable-requires c =
    let (v, b) = c.requires.begins in
    let word = stated-seen v b c.terminal_at.result c.terminal_at.ensures in
    stated_known v (λ h. c.in_default.not-Number (word ∙ h)) (λ h. c.in_default.not-Open (word ∙ h))

pub returns-in-Number : goal.returns-in-Number
returns-in-Number c = λ v b.
    let (n, is, at) = stated_number v b (sym (stated-seen v b c.terminal_at.result c.terminal_at.ensures) ∙ c.in-Number.is) in
    (ap Number (c.numeral_at.ensures.value n at) ∙ sym is, omega (arith, ap (λ (x : ValueText). length (spelled_stated x)) is))

pub returns-in-Open : goal.returns-in-Open
returns-in-Open c = λ v b.
    let e = stated_entry v b (sym (stated-seen v b c.terminal_at.result c.terminal_at.ensures) ∙ c.in-Open.is) in
    (c.entry_at.ensures e.tag e.accessed e.dirty e.begins ∙ sym e.is, omega (arith, ap (λ (x : ValueText). length (spelled_stated x)) e.is))
