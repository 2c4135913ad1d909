-- What each page begins with: the same bytes, whatever the chart shows.
use Rattle.std.specs.Prelude.{◌++◌, codes}
use Rattle.text_lines.specs.Lines.{Text}

abbrev pub document_head : Text
document_head =
    codes "<!DOCTYPE html>\n"
    ++ codes "<html lang=en>\n"
    ++ codes "<meta charset=utf-8>\n"
    ++ codes "<meta name=viewport content=\"width=device-width\">\n"
    ++ codes "<title>RAIM availability</title>\n"

-- Colours that the colour-blind tell apart, patterns and heights. A bar stands at --x of 100,000 units and is --w of
-- them wide, and no less than a pixel.
abbrev pub style : Text
style =
    codes "<style>\n"
    ++ codes "body{margin:1em auto;padding:0 1em;max-width:100em;background:#fff;color:#111;font:1em/1.4 system-ui,sans-serif}\n"
    ++ codes "h1{font-size:1.4em;margin:0}\n"
    ++ codes "h2{font-size:1.2em;margin:2em 0 0;padding-top:.5em;border-top:1px solid #999}\n"
    ++ codes "p{margin:.6em 0;overflow-wrap:anywhere}\n"
    ++ codes "time,.key span{white-space:nowrap}\n"
    ++ codes "i,.band li{box-sizing:border-box;print-color-adjust:exact;-webkit-print-color-adjust:exact}\n"
    ++ codes ".a{height:2em;background:#0072B2}\n"
    ++ codes ".u{height:4em;background:repeating-linear-gradient(45deg,#D55E00 0 5px,#fff 5px 8px);border:solid #D55E00;border-width:1px 0 1px 1px;z-index:1}\n"
    ++ codes ".d{height:3em;background:radial-gradient(#111 1.5px,transparent 2px) 0 0/6px 6px #F0E442;box-shadow:0 0 0 1px #111;z-index:2}\n"
    ++ codes "i{display:inline-block;width:4em;margin-right:1em;font-size:.4em}\n"
    ++ codes ".key span{margin-right:.6em}\n"
    ++ codes ".band,.hours{position:relative;margin:0;padding:0;list-style:none}\n"
    ++ codes ".band{height:4.2em;overflow:hidden;border-bottom:1px solid #111}\n"
    ++ codes ".band li{position:absolute;bottom:0;left:min(calc(var(--x)*.001%),100% - 1px);width:calc(var(--w)*.001%);min-width:1px}\n"
    ++ codes ".hours{height:1.5em;font-size:.8em}\n"
    ++ codes ".hours li{position:absolute;left:calc(var(--x)*.001%);width:2em;margin-left:-1em;text-align:center}\n"
    ++ codes ".hours li::before{content:\"\";position:absolute;left:1em;top:0;height:.3em;border-left:1px solid #111}\n"
    ++ codes ".utc{margin:0;font-size:.8em;text-align:center}\n"
    ++ codes "table{border-collapse:collapse;margin:.6em 0;font-variant-numeric:tabular-nums}\n"
    ++ codes "td,th{padding:.15em .4em;text-align:left;vertical-align:top;border-bottom:1px solid #ccc}\n"
    ++ codes "td~th{background:#ddd}\n"
    ++ codes "td~th::after{content:\" longest\"}\n"
    ++ codes "@media(max-width:40em){\n"
    ++ codes ".hours:has(li:nth-child(13)) li:not(:nth-child(3n+1)){font-size:0}\n"
    ++ codes ".gaps,.gaps tbody{display:block}\n"
    ++ codes ".gaps tr{display:grid;grid-template-columns:1fr 1fr 1fr;border-bottom:1px solid #ccc}\n"
    ++ codes ".gaps td,.gaps th{border:0}\n"
    ++ codes ".gaps tr>:last-child{grid-column:2/4}\n"
    ++ codes "}\n"
    ++ codes "</style>\n"

-- what the page is, and the three kinds with their patterns
abbrev pub legend : Text
legend =
    codes "<h1>RAIM availability</h1>\n"
    ++ codes "<p>Where the receiver's own check of the integrity of GPS (RAIM) is available. All times are UTC.\n"
    ++ codes "<p class=key><span><i class=a></i>Available</span><span><i class=u></i>Unavailable</span><span><i class=d></i>Undecided</span>\n"

abbrev pub page_head : Text
page_head = document_head ++ style ++ legend
