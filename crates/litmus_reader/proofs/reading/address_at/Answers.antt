use Rattle.std.proofs.Common.{length, sym, ap, ◌∙◌, arith}
use Rattle.pc_case.specs.declared.address.{Page.{Page as PagePair}, Address.{Address, TheVariants.{Page, Entry}}}
use Rattle.litmus_reader.{specs.Syntax.{spelled_address}, proofs.Lines.{address-seen, address-within, address-room, address_page, address_entry, address_known}}
use Rattle.litmus_reader.proofs.reading.address_at.Goals as goal

pub terminal_at-requires : goal.terminal_at-requires
terminal_at-requires c = let (a, b) = c.requires.begins in omega (arith, address-within a b, address-room a)

pub page_at-page-requires-clause-page : goal.page_at-page-requires-clause-page
page_at-page-requires-clause-page c =
    let (a, b) = c.requires.begins in
    let (p, is, at) = address_page a b (sym (address-seen a b c.terminal_at.result c.terminal_at.ensures) ∙ c.in-Pa.is) in (p, at)

pub page_at-page-requires-clause-within : goal.page_at-page-requires-clause-within
page_at-page-requires-clause-within c =
    let (a, b) = c.requires.begins in
    let (p, is, at) = address_page a b (sym (address-seen a b c.terminal_at.result c.terminal_at.ensures) ∙ c.in-Pa.is) in
    omega (arith, address-within a b, ap (λ (x : Address). length (spelled_address x)) is)

pub numeral_at-tag-requires : goal.numeral_at-tag-requires
numeral_at-tag-requires c =
    let (a, b) = c.requires.begins in
    let (tag, is, at) = address_entry a b (sym (address-seen a b c.terminal_at.result c.terminal_at.ensures) ∙ c.in-Entry.is) in (tag, at)

pub unreachable-requires : goal.unreachable-requires
unreachable-requires c =
    let (a, b) = c.requires.begins in
    let word = address-seen a b c.terminal_at.result c.terminal_at.ensures in
    address_known a (λ h. c.in_default.not-Pa (word ∙ h)) (λ h. c.in_default.not-Entry (word ∙ h))

pub returns-in-Pa : goal.returns-in-Pa
returns-in-Pa c = λ a b.
    let (p, is, at) = address_page a b (sym (address-seen a b c.terminal_at.result c.terminal_at.ensures) ∙ c.in-Pa.is) in
    let page = c.page_at-page.ensures p at in
    (ap (λ (q : PagePair). Page q.tag q.index) page ∙ sym is, omega (arith, ap (λ (x : Address). length (spelled_address x)) is))

pub returns-in-Entry : goal.returns-in-Entry
returns-in-Entry c = λ a b.
    let (tag, is, at) = address_entry a b (sym (address-seen a b c.terminal_at.result c.terminal_at.ensures) ∙ c.in-Entry.is) in
    let same = c.numeral_at-tag.ensures.value tag at in
    (ap Entry same ∙ sym is, omega (arith, ap (λ (x : Address). length (spelled_address x)) is))
