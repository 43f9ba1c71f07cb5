-- `main` meets its contract: what is printed lies within the bytes of the response.
use Rattle.program.proofs.Answering.{within}
use Rattle.manifold.proofs.main.Goals as goal

pub slice_bounds-bytes-end : goal.slice_bounds-bytes-end
slice_bounds-bytes-end c = (within _ c.respond-length.result c.respond-length.ensures).0

pub slice_bounds-write_all-end : goal.slice_bounds-write_all-end
slice_bounds-write_all-end c = (within _ c.respond-length.result c.respond-length.ensures).1
