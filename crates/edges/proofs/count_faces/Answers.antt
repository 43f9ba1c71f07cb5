-- `count_faces` meets its contract: the uses of the edge, face by face, are those of the whole list.
use Rattle.std.proofs.Common.{rules, ◌≡◌, ◌∙◌, ◌<◌, ◌^◌, arith}
use Rattle.std.specs.List.{sum_by}
use Rattle.std.proofs.lemmas.Iterator.{YieldsList-from_map}
use Rattle.std.proofs.lemmas.Iterator.Consumers.{YieldsList-at, sum_by_from_yields_List, fits_by_from_yields_list}
use Rattle.list.specs.Faces.{faces}
use Rattle.list.specs.Cursor.{faces_left}
use Rattle.list.proofs.Runs.{cursor_yields}
use Rattle.edges.proofs.Question.{face_uses, faces_summed, faces_few}
use Rattle.edges.proofs.count_faces.Goals as goal

pub sum-requires-clause-fits : goal.sum-requires-clause-fits
sum-requires-clause-fits c =
    let l = c.args.list.now in
    let h = face_uses c.args.a c.args.b in
    let start : faces_left c.cursor.result ≡ faces l = rw (c.cursor.ensures.list, c.cursor.ensures.at) in
    let few : sum_by h (faces l) < 2 ^ 64 = omega (arith, faces_summed l c.args.a c.args.b, faces_few l c.args.a c.args.b) in
    fits_by_from_yields_list h (faces l) c.map.result _
    (YieldsList-from_map _ h (YieldsList-at c.map.ensures.source (cursor_yields c.cursor.result (faces l) start)) c.map.ensures.closure (λ x r q k. search rules)) few

pub returns : goal.returns
returns c =
    let l = c.args.list.now in
    let h = face_uses c.args.a c.args.b in
    let start : faces_left c.cursor.result ≡ faces l = rw (c.cursor.ensures.list, c.cursor.ensures.at) in
    sum_by_from_yields_List h (faces l) c.map.result c.sum.result c.sum.ensures.ran
    (YieldsList-from_map _ h (YieldsList-at c.map.ensures.source (cursor_yields c.cursor.result (faces l) start)) c.map.ensures.closure (λ x r q k. search rules))
    ∙ faces_summed l c.args.a c.args.b
