use Rattle.cases.proofs.pile.peel_pile.Goals as goal

pub returns : goal.returns
returns c = rw (c.new-pile.ensures.network, c.new-pile.ensures.within, c.new-relative.ensures, c.new-restricted.ensures.network, c.new-restricted.ensures.within) at c.peel.ensures
