use Rattle.resolve_places.proofs.placed.is_placed.Goals as goal

pub returns : goal.returns
returns c same = record {
  sigs = cc (c.in_ok-sigs.ensures, c.as_slice.ensures, c.as_slice-2.ensures, c.as_slice-3.ensures, c.are_same.ensures c.if-not-are_same.false, c.in_ok-declared_sigs.ensures);
  facts = cc (c.in_ok-facts.ensures, c.as_slice-4.ensures, c.as_slice-5.ensures, c.as_slice-6.ensures, c.are_same-2.ensures c.if-not-are_same-2.false, c.in_ok-declared_facts.ensures);
  commands = cc (c.in_ok-asked.ensures, c.as_slice-7.ensures, c.as_slice-8.ensures, c.as_slice-9.ensures, c.are_same-3.ensures same, c.in_ok-declared_commands.ensures);
}
