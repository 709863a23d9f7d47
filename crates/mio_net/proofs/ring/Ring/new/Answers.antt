use Rattle.mio_net.proofs.ring.Ring.new.Goals as goal

pub returns : goal.returns
returns c = λ i. record { marks = c.in-Ok.ensures.items_if_clones_equal (λ y is. is) i; waiting = c.in_ok-queue.ensures i }
